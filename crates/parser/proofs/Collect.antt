-- The roots of a script where errors are gathered.
use Rattle.std.specs.Prelude.{Some}
use mathlib.Core.Path.{◌≡◌, refl, sym, ap, subst, ◌∙◌}
use mathlib.Core.Bool.{Bool, true, false}
use mathlib.Core.Option.{none}
use mathlib.Core.List.{List, [], ◌∷◌, ◌++◌, map, flatten, foldl, append_assoc}
use Prim.Native.Nat.{ℕ, zero, suc, ◌+◌, ◌*◌, ◌-◌, ◌≤◌, ◌<◌}
use native.Mathlib.Omega.{arith}
use lib.Dec.{eqb, leb}
use lib.ListN.{length, length-append, set, take, get_or}
use lib.Seq.{take_at}
use borrow.Author.Tests.{eqb-true, eqb-false, leb-true, leb-false}
use Rattle.lex.specs.Answer.{max_bytes}
use Rattle.lex.specs.Cells.{padded}
use Rattle.lex.specs.Kind.{k_eof}
use Rattle.lex.specs.Lex.{Occurrence, cut, tokens_of, faults_of}
use Rattle.lex.specs.declared.diagnostic.Diagnostic.{Diagnostic}
use Rattle.lex.specs.declared.tok.Token.{Token}
use Rattle.lex.proofs.Steps.{cut_le}
use Rattle.tokens.specs.Table.{token_of, tokens_from, errors_from, no_error}
use Rattle.tokens.specs.Tables.{error_table}
use Rattle.tokens.proofs.Records.{table_errors, error-met}
use Rattle.rules.specs.Tree.{State, Result, ok, err}
use Rattle.rules.specs.Combinators.{◌>>◌, pure, choose, current, ControlFlow, continue, break, iterate, loop}
use Rattle.rules.specs.Rules.{stage_one, max_levels}
use Rattle.rules.specs.Parse.{Gathered, begin, merged, synchronize_root, recover, parse_roots_collect}
use Rattle.ast.specs.Layout.{diagnostic_width, diagnostic_cells}
use Rattle.ast.specs.declared.NodeId.{NodeId}
use Rattle.rules.proofs.Results as Results
use Rattle.rules.proofs.Counting.Step.{WellEnded, pending}
use Rattle.rules.proofs.Counting.Whole.{begin-left, begin_pending, Reached}
use Rattle.rules.proofs.Counting.Collect as Counting
use Rattle.diagnostics.specs.Records.{Diagnostics, diagnostics, Holding, pushed}
use Rattle.diagnostics.proofs.Records.{cells-length, holding-pushed, holding-none}
use Rattle.diagnostics.specs.Faults.{diagnostics_in, early, late}
use Rattle.diagnostics.proofs.Faults.{late_more, late_out}
use Rattle.diagnostics.proofs.Order.{Ordered, ordered-start, ordered-error, ordered_end, ordered-room}
use Rattle.parser_state.specs.Represents.{Failed, Code, Kept, is_going, ahead, Represents, FailedAt}
use Rattle.parser_state.specs.Refines.{Ends, stack_unchanged, RefinesBy, rules_of, deeper, member_follows}
use Rattle.parser_state.proofs.Steps.{true≢false, current_represents, represents_less, represents_going}
use Rattle.parser_state.proofs.Rounds.{after, iterate-suc, if_kind_is_yes, if_kind_is_no}
use Rattle.parser_state.proofs.Loops.{member-going, member-eof}
use Rattle.parser.specs.Whole.{Begun, FirstToken, drop_docs, ResumesBy, synchronizing}
use Rattle.parser.specs.Collect.{RootsCollected, collect_step, AllBelow, DiagnosticsAre, GatheredAre, Room, TurnEnds, CollectEnds}
use Rattle.parser.proofs.Synchronize.{recovered}
use Rattle.parser.proofs.Roots.{some-ahead, root-pushed, at-eof, tree-held, begun, tokens-few}

-- ---- how many tokens are cut before an error

late_below : (n at : ℕ) (os : List Occurrence) → AllBelow n os → AllBelow n (late at os)
unfolding late
late_below n at [] h = tt
late_below n at (o ∷ os) h = go (leb o.after at) refl (late_below n at os h.1)
  where
    go : (b : Bool) → leb o.after at ≡ b → AllBelow n (late at os) → AllBelow n (late at (o ∷ os))
    go true b r = subst (AllBelow n) (sym (late_more at o os (leb-true _ _ b))) r
    go false b r = subst (AllBelow n) (sym (late_out at o os (leb-false _ _ b))) h

late-none : (n at : ℕ) (os : List Occurrence) → n ≤ at + 1 → AllBelow n os → late at os ≡ []
unfolding late
late-none n at [] k h = refl
late-none n at (o ∷ os) k h = late_more at o os (omega arith) ∙ late-none n at os k h.1

all-below : (n : ℕ) (os : List Occurrence) → ((i : ℕ) → i < length os → (get_or os i no_error).after < n) → AllBelow n os
all-below n [] f = tt
all-below n (o ∷ os) f = (f 0 (omega arith), all-below n os (λ i h. f (suc i) (omega arith)))

-- ---- diagnostics

module _ {script errors array array₁ : List ℕ} {n n₁ listed : ℕ} (listed₁ at : ℕ) {es : List Occurrence} (small : length script ≤ max_bytes) (room : diagnostic_width * length script ≤ length array)
    (few : length es < length (tokens_of (cut script))) (d : DiagnosticsAre script errors array n listed es)
    (p : diagnostics array₁ n₁ ≡ foldl pushed (diagnostics array n) (diagnostics_in (early at (errors_from errors listed)))) (q : errors_from errors listed₁ ≡ late at (errors_from errors listed)) (same₁ : length array₁ ≡ length array) where
  abbrev met : List Diagnostic
  met = diagnostics_in (early at (errors_from errors listed))

  within : length d.ds + length met ≤ length es + length (faults_of 0 (cut script))
  within = ordered-room d.ordered at

  -- the faults before the token being read stand behind what is there
  faults_pushed : Holding (diagnostics array₁ n₁) (d.ds ++ met)
  faults_pushed = subst (λ (a : Diagnostics). Holding a (d.ds ++ met)) (sym p) (holding-pushed met d.held (omega (arith, within, cut_le script)) (omega (arith, within, cut_le script)))

  -- and the error behind them
  pub error-pushed : {array₂ : List ℕ} {n₂ : ℕ} (e : Diagnostic) → length es + 2 ≤ length (tokens_of (cut script)) → diagnostics array₂ n₂ ≡ pushed (diagnostics array₁ n₁) e
      → DiagnosticsAre script errors array₂ n₂ listed₁ (es ++ (record { after = at; diagnostic = e } ∷ []))
  error-pushed {array₂} {n₂} e less w =
      let two : length (d.ds ++ met) ≡ length d.ds + length met = length-append d.ds met in
      let held₂ : Holding (diagnostics array₂ n₂) ((d.ds ++ met) ++ (e ∷ [])) =
      subst (λ (a : Diagnostics). Holding a ((d.ds ++ met) ++ (e ∷ []))) (sym w) (holding-pushed (e ∷ []) faults_pushed (omega (arith, within, cut_le script)) (omega (arith, within, cut_le script))) in
      record {
        ds = d.ds ++ (met ++ (e ∷ []));
        held = rw (← append_assoc d.ds met (e ∷ [])) held₂;
        ordered = subst (Ordered (faults_of 0 (cut script)) (es ++ (record { after = at; diagnostic = e } ∷ [])) (d.ds ++ (met ++ (e ∷ [])))) (sym q) (ordered-error d.ordered at e);
        below = subst (AllBelow (length (tokens_of (cut script)))) (sym q) (late_below _ at (errors_from errors listed) d.below);
      }

  -- where Eof is read these are all
  pub all-pushed : length (tokens_of (cut script)) ≤ at + 1
      → (take (diagnostic_width * n₁) array₁ ≡ flatten (map diagnostic_cells (merged (length (faults_of 0 (cut script)) + length es) (faults_of 0 (cut script)) es))) × (n₁ ≡ length (merged (length (faults_of 0 (cut script)) + length es) (faults_of 0 (cut script)) es))
  all-pushed last =
      let all = ordered_end d.ordered at (late-none _ at (errors_from errors listed) last d.below) in
      let h = faults_pushed in (
        ap (take (diagnostic_width * n₁)) h.laid ∙ take_at (flatten (map diagnostic_cells (d.ds ++ met))) h.behind (diagnostic_width * n₁) (omega (arith, cells-length (d.ds ++ met), h.counted)) ∙ ap (λ (ds : List Diagnostic). flatten (map diagnostic_cells ds)) (sym all),
        h.counted ∙ ap length (sym all),
      )

-- ---- a turn

-- one more error
abbrev one_more : List ℕ → Gathered → Diagnostic → State → Gathered
one_more script g e m = record { roots = g.roots; errors = g.errors ++ (record { after = length (begin script).left - length m.left; diagnostic = e } ∷ []) }

module _ (script : List ℕ) (g : Gathered) (e : Diagnostic) (m : State) where
  by_number : Bool → Result ℕ → Result (ControlFlow Gathered)
  by_number b r = elim b [ true ↦ err e m | false ↦ elim r [ ok n m₁ ↦ ok (continue (one_more script g e m)) m₁ | err x m₁ ↦ err x m₁ ] ]

  recover_by : recover stage_one script g e m ≡ by_number (eqb e.number 10) (synchronize_root m)
  unfolding recover by_number ◌>>◌ pure
  recover_by = refl

  pub recover-ends : eqb e.number 10 ≡ true → recover stage_one script g e m ≡ err e m
  unfolding by_number
  recover-ends z = recover_by ∙ ap (λ (b : Bool). by_number b (synchronize_root m)) z

  pub recover_goes_on : {n : ℕ} {m₁ : State} → eqb e.number 10 ≡ false → synchronize_root m ≡ ok n m₁ → recover stage_one script g e m ≡ ok (continue (one_more script g e m)) m₁
  unfolding by_number
  recover_goes_on z w = recover_by ∙ ap (λ (b : Bool). by_number b (synchronize_root m)) z ∙ ap (by_number false) w

-- by how the root ends
pub collect_turn : {kept : Kept} {script tokens errors roots diagnostics : List ℕ} {s : Code} {id : NodeId} {s' : Code} (c : RootsCollected) (g : Gathered) (m : State) → member_follows s.parser k_eof ≡ true
    → Represents tokens s 0 0 [] m → RefinesBy kept tokens 0 0 (deeper (rules_of script) max_levels).prefix (λ a. a ≡ id) stack_unchanged 1 0 8 s s'
    → ((a : NodeId) (m₁ : State) → a ≡ id → Represents tokens s' 0 0 [] m₁ → TurnEnds script tokens errors roots diagnostics c (ok (continue (record { roots = g.roots ++ (a.0 ∷ []); errors = g.errors })) m₁))
    → ((e : Diagnostic) (m₁ : State) → FailedAt tokens s' e 0 0 [] m₁ → TurnEnds script tokens errors roots diagnostics c (recover stage_one script g e m₁))
    → TurnEnds script tokens errors roots diagnostics c (collect_step script g m)
collect_turn {kept} {script} {tokens} {errors} {roots = roots} {diagnostics} {s} {id} {s'} c g m w h q f k =
    let cur : current m.left ≡ token_of s.parser.cur = current_represents h.related in
    subst (TurnEnds script tokens errors roots diagnostics c) (sym (if_kind_is_no k_eof _ _ m (rw cur (member-eof s.parser k_eof w)))) (go ((deeper (rules_of script) max_levels).prefix m) (q.simulates 0 0 [] m h))
  where
    go : (r : Result NodeId) → Ends tokens (λ a. a ≡ id) stack_unchanged s' 0 0 0 8 [] r
        → TurnEnds script tokens errors roots diagnostics c (elim r as (λ _. Result (ControlFlow Gathered)) [ ok n s₁ ↦ ok (continue (record { roots = g.roots ++ (n.0 ∷ []); errors = g.errors })) s₁ | err e s₁ ↦ recover stage_one script g e s₁ ])
    go (ok a m₁) z = f a m₁ z.0 (represents_less _ _ (omega arith) (omega arith) z.1)
    go (err e m₁) z = k e m₁ z

-- 10 ends the reading
pub ended_by_ten : (script errors : List ℕ) {tokens : List ℕ} {d : Diagnostic} (roots array : List ℕ) (c : RootsCollected) (g : Gathered) (e : Diagnostic) (m : State) → c.code.parser.error ≡ Some d → eqb d.number 10 ≡ true
    → FailedAt tokens c.code e 0 0 [] m → TurnEnds script tokens errors roots array c (recover stage_one script g e m)
ended_by_ten script errors {tokens} {d} roots array c g e m failed ten h =
    let both : Some d ≡ Some e = sym failed ∙ h.status in
    let named : d ≡ e = cc in
    subst (TurnEnds script tokens errors roots array c) (sym (recover-ends script g e m (ap (λ (x : Diagnostic). eqb x.number 10) (sym named) ∙ ten))) h.status

-- an error is gathered, and the reading goes on
pub gathered_error : {kept : Kept} (script : List ℕ) {tokens errors roots array array₁ array₂ : List ℕ} {c : RootsCollected} {n₁ n₂ : ℕ} (listed₁ : ℕ) {d : Diagnostic} {q₁ q₂ : Code} {at : ℕ} (g : Gathered) (e : Diagnostic) (m : State) → at ≡ c.code.parser.at → c.code.parser.error ≡ Some d → eqb d.number 10 ≡ false
    → diagnostics array₁ n₁ ≡ foldl pushed (diagnostics array c.diagnostics) (diagnostics_in (early at (errors_from errors c.listed))) → errors_from errors listed₁ ≡ late at (errors_from errors c.listed) → length array₁ ≡ length array → diagnostics array₂ n₂ ≡ pushed (diagnostics array₁ n₁) d
    → ResumesBy kept tokens c.code q₁ → RefinesBy kept tokens 0 0 synchronizing (λ n. n ≡ 0) stack_unchanged 0 0 0 q₁ q₂
    → Room script roots array g → tokens_from tokens 0 ≡ tokens_of (cut script) → FailedAt tokens c.code e 0 0 [] m → GatheredAre script tokens errors roots array c g
    → TurnEnds script tokens errors roots array₂ (record { code = q₂; members = c.members; diagnostics = n₂; listed = listed₁ }) (recover stage_one script g e m)
gathered_error {kept} script {tokens} {errors} {roots} {array} {array₁} {array₂} {c} {n₁} {n₂} listed₁ {d} {q₁} {q₂} {at} g e m place failed ten faults leaves same pushes resumes goes room all h z =
    let both : Some d ≡ Some e = sym failed ∙ h.status in
    let named : d ≡ e = cc in
    let r = recovered h resumes goes in
    let last : RootsCollected = record { code = q₂; members = c.members; diagnostics = n₂; listed = listed₁ } in
    let left : length m.left ≡ length (ahead tokens c.code) = ap length h.related.left in
    let left₂ : length r.after.left ≡ length (ahead tokens q₂) = ap length r.represents.related.left in
    let count : at ≡ length (begin script).left - length m.left = omega (arith, begin-left script, h.related.taken, ap length all) in
    let one = error-pushed listed₁ at room.small room.diagnostics_long (omega (arith, room.few_errors)) z.diagnostics_held faults leaves same e room.few_errors (pushes ∙ ap (pushed (diagnostics array₁ n₁)) named) in
    subst (TurnEnds script tokens errors roots array₂ last) (sym (recover_goes_on script g e m (ap (λ (x : Diagnostic). eqb x.number 10) (sym named) ∙ ten) r.comes)) (
      r.represents,
      record {
        roots_held = record { held = z.roots_held.held; counted = z.roots_held.counted; few = omega (arith, z.roots_held.few, r.fewer) };
        diagnostics_held = subst (λ (k : ℕ). DiagnosticsAre script errors array₂ n₂ listed₁ (g.errors ++ (record { after = k; diagnostic = e } ∷ []))) count one;
      },
    )

-- what is gathered stays while tokens are taken
pub gathers_on : {script tokens errors roots array : List ℕ} {c : RootsCollected} {q : Code} {g : Gathered} → GatheredAre script tokens errors roots array c g
    → length (ahead tokens q) ≤ length (ahead tokens c.code)
    → GatheredAre script tokens errors roots array (record { code = q; members = c.members; diagnostics = c.diagnostics; listed = c.listed }) g
gathers_on z h = record { roots_held = record { held = z.roots_held.held; counted = z.roots_held.counted; few = omega (arith, z.roots_held.few) }; diagnostics_held = z.diagnostics_held }

-- a root is read
pub gathered_root : {kept : Kept} {script tokens errors roots roots' array : List ℕ} {c : RootsCollected} {q : Code} {n : ℕ} {id : NodeId} {m : State} (g : Gathered) (a : NodeId) (m₁ : State) → a ≡ id → Room script roots array g
    → Represents tokens c.code 0 0 [] m → GatheredAre script tokens errors roots array c g
    → RefinesBy kept tokens 0 0 (deeper (rules_of script) max_levels).prefix (λ a. a ≡ id) stack_unchanged 1 0 8 c.code q → Represents tokens q 0 0 [] m₁
    → (c.members < length roots → c.members < max_bytes → (roots' ≡ set roots c.members id.0) × (n ≡ c.members + 1))
    → TurnEnds script tokens errors roots' array (record { code = q; members = n; diagnostics = c.diagnostics; listed = c.listed }) (ok (continue (record { roots = g.roots ++ (a.0 ∷ []); errors = g.errors })) m₁)
gathered_root {kept} {script} {tokens} {errors} {c = c} {q} g a m₁ e room h z p k f = (
  k,
  record {
    roots_held = root-pushed script tokens c.code q g.roots a e z.roots_held room.small room.roots_long (p.progress (represents_going k)) (some-ahead k.related) f;
    diagnostics_held = z.diagnostics_held;
  },
)

-- ---- all turns

-- Eof is no infix sign
no-eof : stage_one k_eof ≡ none
unfolding stage_one choose
no-eof = refl

-- a token that is not Eof has one behind it
two_left : (l : List Token) → WellEnded l → ¬ ((current l).kind ≡ k_eof) → 2 ≤ length l
unfolding current
two_left [] h n = absurd h
two_left (t ∷ []) h n = absurd (n h)
two_left (t ∷ (u ∷ ts)) h n = omega arith

-- and Eof none
last-left : {n : ℕ} (l : List Token) → length l ≡ n → eqb (current l).kind k_eof ≡ true → WellEnded l → n ≤ 1
unfolding current
last-left [] e h w = absurd w
last-left (t ∷ []) e h w = omega arith
last-left (t ∷ (u ∷ ts)) e h w = absurd (w.0 (eqb-true _ _ h))

module _ (script tokens errors : List ℕ) where
  -- the rule has come as far as the code, or has ended with the code's error
  pub record Live (roots diagnostics : List ℕ) (c : RootsCollected) : Type 0 where
    pub fuel : ℕ
    pub g : Gathered
    pub m : State
    pub comes : parse_roots_collect stage_one script (begin script) ≡ iterate fuel (collect_step script) g m
    pub fuelled : pending m ≤ fuel
    pub counts : Counting.Gathers script g m
    pub represents : Represents tokens c.code 0 0 [] m
    pub gathers : GatheredAre script tokens errors roots diagnostics c g

  pub data Progress (roots diagnostics : List ℕ) (c : RootsCollected) : Type 0 where
    live : Live roots diagnostics c → Progress roots diagnostics c
    over : (e : Diagnostic) (m : State) → parse_roots_collect stage_one script (begin script) ≡ err e m → c.code.parser.error ≡ Failed e → Progress roots diagnostics c

  -- what is pending, while the reading goes on
  abbrev pub to_go : RootsCollected → ℕ
  to_go c = elim (is_going c.code.parser.error) as (λ _. ℕ) [ true ↦ suc (c.code.parser.used.docs + length (ahead tokens c.code)) | false ↦ 0 ]

  to_go_live : (c : RootsCollected) (m : State) → Represents tokens c.code 0 0 [] m → to_go c ≡ suc (pending m)
  to_go_live c m h =
      let all : ℕ = suc (c.code.parser.used.docs + length (ahead tokens c.code)) in
      ap (λ (b : Bool). elim b as (λ _. ℕ) [ true ↦ all | false ↦ 0 ]) (represents_going h) ∙ omega (arith, h.related.types.doc_counted, ap length h.related.left)

  to_go_over : (c : RootsCollected) (e : Diagnostic) → c.code.parser.error ≡ Failed e → to_go c ≡ 0
  to_go_over c e h =
      let all : ℕ = suc (c.code.parser.used.docs + length (ahead tokens c.code)) in
      ap (λ (b : Bool). elim b as (λ _. ℕ) [ true ↦ all | false ↦ 0 ]) (ap is_going h)

  pub record Turn (roots diagnostics roots' diagnostics' : List ℕ) (c c' : RootsCollected) : Type 0 where
    pub progress : Progress roots' diagnostics' c'
    pub less : to_go c' < to_go c

  pub turn : {roots diagnostics roots' diagnostics' : List ℕ} {c c' : RootsCollected} → member_follows c.code.parser k_eof ≡ true → length script ≤ max_bytes → length script ≤ length roots → diagnostic_width * length script ≤ length diagnostics → tokens_from tokens 0 ≡ tokens_of (cut script)
      → Progress roots diagnostics c
      → ((g : Gathered) (m : State) → Room script roots diagnostics g → tokens_from tokens 0 ≡ tokens_of (cut script) → Represents tokens c.code 0 0 [] m → GatheredAre script tokens errors roots diagnostics c g → TurnEnds script tokens errors roots' diagnostics' c' (collect_step script g m))
      → Turn roots diagnostics roots' diagnostics' c c'
  unfolding after
  turn {roots} {diagnostics} {roots'} {diagnostics'} {c} {c'} w small long room all i f = go i
    where
      next : (n : ℕ) (g : Gathered) (m : State) → pending m ≤ suc n → Represents tokens c.code 0 0 [] m → (r : Result (ControlFlow Gathered))
          → parse_roots_collect stage_one script (begin script) ≡ after (collect_step script) n r → Results.Ends (Counting.Turn stage_one no-eof script m) (Reached script) r → TurnEnds script tokens errors roots' diagnostics' c' r
          → Turn roots diagnostics roots' diagnostics' c c'
      next n g m k h r e (Results.holds {a = continue b} {s = m₁} (Results.again counts l)) t = record {
        progress = live (record { fuel = n; g = b; m = m₁; comes = e; fuelled = omega arith; counts = counts; represents = t.0; gathers = t.1 });
        less = omega (arith, to_go_live c m h, to_go_live c' m₁ t.0);
      }
      next n g m k h r e (Results.holds {a = break b} {s = m₁} z) t = absurd t
      next n g m k h r e (Results.fails {e = x} {s = m₁} z) t = record { progress = over x m₁ e t; less = omega (arith, to_go_live c m h, to_go_over c' x t) }

      one : (n : ℕ) (g : Gathered) (m : State) → parse_roots_collect stage_one script (begin script) ≡ iterate n (collect_step script) g m → pending m ≤ n → Counting.Gathers script g m → Represents tokens c.code 0 0 [] m
          → GatheredAre script tokens errors roots diagnostics c g → Turn roots diagnostics roots' diagnostics' c c'
      one zero g m e k q h z = absurd (omega (arith, Counting.some_pending stage_one no-eof script q.reached))
      one (suc n) g m e k q h z =
          let cur : current m.left ≡ token_of c.code.parser.cur = current_represents h.related in
          let two : 2 ≤ length m.left = two_left m.left q.reached.ended (rw cur (eqb-false _ _ (member-eof c.code.parser k_eof w))) in
          next n g m k h (collect_step script g m) (e ∙ iterate-suc (collect_step script) n g m) (Counting.turn_ends stage_one no-eof script g m q)
          (f g m (record { small = small; roots_long = long; diagnostics_long = room; few_errors = omega (arith, q.few_errors, begin-left script) }) all h z)

      go : Progress roots diagnostics c → Turn roots diagnostics roots' diagnostics' c c'
      go (live v) = one v.fuel v.g v.m v.comes v.fuelled v.counts v.represents v.gathers
      go (over e m z s) = absurd (true≢false (member-going c.code.parser k_eof w) (ap is_going s))

  -- ---- the beginning and the end

  pub start : {roots diagnostics : List ℕ} (s : Code) → Begun script tokens s.nodes s.types s.lists roots → FirstToken tokens s.parser → errors ≡ padded (length errors) (error_table script)
      → Progress roots diagnostics (record { code = s; members = 0; diagnostics = 0; listed = 0 })
  unfolding parse_roots_collect loop
  start {roots = roots} {diagnostics = array} s h e z =
      let b = begun s h e in
      let all : errors_from errors 0 ≡ faults_of 0 (cut script) = ap (λ (t : List ℕ). errors_from t 0) z ∙ table_errors script (length errors) 0 (omega arith) in
      live (record {
        fuel = length (begin script).left;
        g = record { roots = []; errors = [] };
        m = begin script;
        comes = refl;
        fuelled = begin_pending script;
        counts = Counting.begin_gathers stage_one no-eof script;
        represents = b;
        gathers = record {
          roots_held = record { held = refl; counted = refl; few = omega (arith, b.related.taken, tokens-few script h.lent.small h.tabled, ap length b.related.left) };
          diagnostics_held = record {
            ds = [];
            held = holding-none;
            ordered = subst (Ordered (faults_of 0 (cut script)) [] []) (sym all) ordered-start;
            below = subst (AllBelow (length (tokens_of (cut script)))) (sym all) (all-below _ (faults_of 0 (cut script)) (λ i k. omega (arith, (error-met script i k).below)));
          };
        };
      })

  -- 10 has ended it
  pub ended_by : {roots diagnostics : List ℕ} {c : RootsCollected} → is_going c.code.parser.error ≡ false → Progress roots diagnostics c → CollectEnds script roots diagnostics c (parse_roots_collect stage_one script (begin script))
  ended_by g (live v) = absurd (true≢false (represents_going v.represents) g)
  ended_by {roots} {diagnostics} {c} g (over e m z s) = subst (CollectEnds script roots diagnostics c) (sym z) s

  -- all roots are read
  pub ends : {kept : Kept} {roots array array' : List ℕ} {c : RootsCollected} {q : Code} {n : ℕ} (listed : ℕ) {at : ℕ} → at ≡ c.code.parser.at → member_follows c.code.parser k_eof ≡ false → is_going c.code.parser.error ≡ true → length script ≤ max_bytes → diagnostic_width * length script ≤ length array → tokens_from tokens 0 ≡ tokens_of (cut script) → Progress roots array c
      → diagnostics array' n ≡ foldl pushed (diagnostics array c.diagnostics) (diagnostics_in (early at (errors_from errors c.listed))) → errors_from errors listed ≡ late at (errors_from errors c.listed) → length array' ≡ length array
      → RefinesBy kept tokens 0 0 drop_docs (λ n. n ≡ 0) stack_unchanged 0 0 0 c.code q
      → CollectEnds script roots array' (record { code = q; members = c.members; diagnostics = n; listed = listed }) (parse_roots_collect stage_one script (begin script))
  unfolding after pure
  ends {kept} {roots} {array} {array'} {c} {q} {n} listed {at} place w g small room all i p leaves same d = go i
    where
      last : RootsCollected
      last = record { code = q; members = c.members; diagnostics = n; listed = listed }

      one : (f : ℕ) (t : Gathered) (m : State) → parse_roots_collect stage_one script (begin script) ≡ iterate f (collect_step script) t m → pending m ≤ f → Counting.Gathers script t m → Represents tokens c.code 0 0 [] m
          → GatheredAre script tokens errors roots array c t → CollectEnds script roots array' last (parse_roots_collect stage_one script (begin script))
      one zero t m e k s h z = absurd (omega (arith, Counting.some_pending stage_one no-eof script s.reached))
      one (suc f) t m e k s h z =
          let eof = at-eof w h in
          let out : parse_roots_collect stage_one script (begin script) ≡ ok t m = e ∙ iterate-suc (collect_step script) f t m ∙ ap (after (collect_step script) f) (if_kind_is_yes k_eof _ _ m eof) in
          let one_left : length m.left ≤ 1 = last-left m.left refl eof s.reached.ended in
          let pushes = all-pushed listed at small room (omega (arith, s.few_errors, begin-left script, Counting.some_pending stage_one no-eof script s.reached)) z.diagnostics_held p leaves same (omega (arith, h.related.taken, ap length all, place)) in
          subst (CollectEnds script roots array' last) (sym out) (tree-held h z.roots_held d, pushes.0, pushes.1)

      go : Progress roots array c → CollectEnds script roots array' last (parse_roots_collect stage_one script (begin script))
      go (live v) = one v.fuel v.g v.m v.comes v.fuelled v.counts v.represents v.gathers
      go (over e m z s) = absurd (true≢false g (ap is_going s))
