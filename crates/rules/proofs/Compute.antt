-- What the rules say of a script, for antt to compute.
use mathlib.Core.Bool.{Bool}
use mathlib.Core.Option.{Option, none}
use mathlib.Core.List.{List, [], ◌∷◌, ◌++◌, map, flatten}
use Prim.Native.Nat.{ℕ, zero, suc}
use lib.ListN.{length}
use Prim.Native.Char.{code}
use Prim.Native.String.{String, [] as []ˢ, ◌∷◌ as ◌∷ˢ◌}
use Rattle.lex.specs.Bytes as Bytes
use Rattle.lex.specs.Kind as Kind
use Rattle.lex.specs.Utf8 as Utf8
use Rattle.lex.specs.Lex as Lex
use Rattle.lex.specs.Spelling as Spelling
use Rattle.rules.specs.Combinators as Combinators
use Rattle.ast.specs.Layout as Layout
use Rattle.rules.specs.Rules as Rules
use Rattle.rules.specs.Parse as Parse
use Rattle.rules.specs.Shape as Shape
use Rattle.ast.specs.Lists as Lists
use Rattle.ast.specs.Tabulate as Tabulate
use Rattle.rules.specs.Strike as Strike
use Rattle.rules.specs.Law as Law
use Rattle.rules.specs.Parents as Parents
use Rattle.lex.specs.Lex.{Cut}
use Rattle.rules.specs.Tree.{Notes}
use Rattle.rules.specs.Rules.{stage_one}
use Rattle.rules.specs.Parse.{Reading, read, ended, parse, parse_collect}
use Rattle.rules.specs.Shape.{Word, Shapes, shape_of}
use Rattle.rules.specs.Strike.{strike, no_doc_before_import, notes_of}

-- what a tree names, the arguments of its Fn nodes, and each node's parent
pub record Named : Type 0 where
  pub occurrences : Option (List Law.Child)
  pub arguments : ℕ
  pub parents : List ℕ

-- the numbers below one, in order
unfoldable pub numbers_to : ℕ → List ℕ
numbers_to zero = []
numbers_to (suc n) = numbers_to n ++ (n ∷ [])

unfoldable pub named_in : Reading → Named
named_in (read t es) = record { occurrences = Law.occurrences t; arguments = Law.all_arguments t.arena.nodes; parents = map (Parents.parent_of t.arena) (numbers_to (length t.arena.nodes)) }
named_in (ended e) = record { occurrences = none; arguments = 0; parents = [] }

pub record Computed : Type 0 where
  pub cut : Cut
  pub strict : Reading
  pub collecting : Reading
  -- the shape, where strict mode accepts
  pub shape : Option Shapes
  -- what striking leaves
  pub words : List Word
  pub notes : Notes
  pub docs : Bool
  -- for each resynchronising, how many tokens are taken where it begins
  pub resynchronisings : List ℕ
  -- what is named in the tree of collecting mode, and the parent of each of its nodes
  pub named : Named

unfoldable pub shape_in : List ℕ → Reading → Option Shapes
shape_in script (read t es) = shape_of script t
shape_in script (ended e) = none

unfoldable pub computed_from : List ℕ → Computed
unfolding
    shape_in flatten
    Bytes.or Bytes.between Bytes.is_ws Bytes.is_digit Bytes.is_ident_start Bytes.is_ident_cont Bytes.is_num_cont Bytes.count_while Bytes.differs_from Bytes.before Bytes.find_byte
    Kind.same_bytes Kind.keywords Kind.name_kind Kind.punctuators Kind.punctuator_kinds Kind.punctuator_kind
    Utf8.least_second Utf8.greatest_second Utf8.after_lead Utf8.after_continuation Utf8.next_state Utf8.state_after Utf8.utf8
    Lex.begins_comment Lex.skipped Lex.punctuator Lex.punctuation Lex.leading_space Lex.doc_in Lex.doc Lex.string Lex.double_in Lex.number_in Lex.number Lex.name Lex.symbol Lex.piece Lex.stands_at Lex.step_at Lex.cut_from Lex.cut_at Lex.cut Lex.tokens_of Lex.diagnostic_of Lex.faults_of Lex.is_prefix_sign
    Combinators.◌>>=◌ Combinators.◌>>◌ Combinators.pure Combinators.current Combinators.rest Combinators.cur Combinators.advance Combinators.struck Combinators.by_kind Combinators.if_kind Combinators.choose Combinators.at_token Combinators.fail_expecting Combinators.expect Combinators.expect_ident Combinators.reject_kind Combinators.with_arena Combinators.push_node_and Combinators.push_type Combinators.alloc_slice Layout.token_cells Layout.run_cells Combinators.iterate Combinators.loop Combinators.members Combinators.list_until Combinators.with_docs Combinators.collect_docs Combinators.take_docs
    Rules.stage_one Rules.open_angle Rules.atom_type Rules.foreign_type Rules.supplied_void Rules.import_path Rules.bracketed_paths Rules.strike_single Rules.parse_import Rules.atom Rules.ident Rules.is_callable_target Rules.callable Rules.field_access Rules.breaks_off Rules.require_no_docs Rules.note_after_default Rules.node_member Rules.typed_name Rules.option_type Rules.array_type Rules.record_type Rules.type_by_kind Rules.parse_type Rules.parse_body Rules.parse_args Rules.return_type Rules.parse_let Rules.parse_fn Rules.extern_fn Rules.parse_extern Rules.default_case Rules.condition_case Rules.next_case Rules.parse_match Rules.parse_prefix Rules.field Rules.record_literal Rules.array_literal Rules.group Rules.unary Rules.operand Rules.call Rules.postfix Rules.cast Rules.binary Rules.infixes Rules.parse_expr Rules.readers
    Parse.begin Parse.synchronize_root Parse.merged Parse.parse_roots Parse.parse Parse.recover Parse.parse_roots_collect Parse.parse_collect
    Spelling.spelling_offset Spelling.spelling_start Spelling.well_formed Shape.word_of Shape.word Lists.map₁ Lists.map₂ Lists.map₃ Lists.map₄ Lists.map₅ Lists.and_then Lists.decoded Lists.chain Lists.number Lists.token Lists.run Lists.resolve Lists.both Lists.items Lists.from Lists.list_at Shape.w Shape.word_in Shape.param_in Shape.field_in Shape.words Shape.params Shape.shapes Shape.fields Shape.case_in Shape.cases Shape.fn_in Shape.fns Shape.type_shape Shape.node_shape Tabulate.lookup Tabulate.tabulate Shape.type_in Shape.type_shape_at Shape.node_in Shape.node_shape_at Shape.shapes_of Shape.shape_of
    Law.listed Law.node_in Law.type_in Law.field_in Law.param_in Law.case_in Law.fn_in Law.children_of Law.inner_of Law.same Law.times Law.all_of Law.occurrences Law.arguments_of Law.all_arguments Law.resynchronisings Parents.is_among Parents.parent_from Parents.parent_of numbers_to named_in
    Strike.keep Strike.no_doc_before_import Strike.notes_of Strike.strike
computed_from script = record {
  cut = Lex.cut script;
  strict = parse stage_one script;
  collecting = parse_collect stage_one script;
  shape = shape_in script (parse stage_one script);
  words = strike stage_one script;
  notes = notes_of stage_one script;
  docs = no_doc_before_import (Lex.tokens_of (Lex.cut script));
  resynchronisings = Law.resynchronisings stage_one script;
  named = named_in (parse_collect stage_one script);
}

-- a text of ASCII characters
unfoldable pub bytes : String → List ℕ
bytes []ˢ = []
bytes (c ∷ˢ s) = code c ∷ bytes s

-- the same of a script that is written as a text
unfoldable pub computed : String → Computed
unfolding bytes computed_from
computed text = computed_from (bytes text)
