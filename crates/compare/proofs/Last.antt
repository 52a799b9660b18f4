-- The last part of a node's record where it is a list: of fields or of nodes.
use mathlib.Core.Path.{◌≡◌, refl, sym, ◌∙◌}
use mathlib.Core.Bool.{Bool, true, false, false≢true}
use mathlib.Core.List.{List}
use Prim.Native.Nat.{ℕ, ◌+◌, ◌-◌}
use lib.ListN.{get_or}
use Rattle.rules.specs.Shape as S
use Rattle.rules.specs.Shape.{Word, Shape, Shapes, FieldShapes, Env}
use Rattle.ast.specs.declared.Run.{Run}
use Rattle.ast.specs.Decode.{token_at, run_at}
use Rattle.compare.specs.Agree.{Agree, Decides}
use Rattle.compare.specs.Parts.{PartsAgree}
use Rattle.compare.proofs.Walk.{pair_agree, pair_parts}
use Rattle.compare.proofs.Listing.{Listing, field_lists, node_lists}
use Rattle.compare.proofs.Nodes.{last-fields, last-nodes}
use Rattle.compare.specs.Orders.{member_cells, number, IsLast}
use Rattle.compare.specs.declared.node.Order.{Order}
use Rattle.compare.specs.declared.node.Last.{Last}
use Rattle.compare.specs.declared.node.Last.TheVariants as L
use Rattle.std.specs.Prelude.{Some}

-- ---- the two sorts as one, fields where the test holds

abbrev pub Member : Bool → Type 0
Member true = Word × Shape
Member false = Shape

abbrev pub Whole : Bool → Type 0
Whole true = FieldShapes
Whole false = Shapes

abbrev pub lists : (b : Bool) → Listing (Member b) (Whole b)
lists true = field_lists
lists false = node_lists

-- ---- a member: its name, where there is one, and its node, in its last cell

pub width_is : (b : Bool) → member_cells b ≡ (lists b).sort.size
width_is true = refl
width_is false = refl

module _ (b : Bool) (e e' : Env) (at at' : ℕ) {width : ℕ} (w : width ≡ member_cells b) where
  abbrev Names : Type 0
  Names = b ≡ true → Agree (S.w e (token_at e.cells at)) (S.w e' (token_at e'.cells at'))

  abbrev Nodes : Type 0
  Nodes = Agree (e.node (get_or e.cells (at + (width - 1)) 0)) (e'.node (get_or e'.cells (at' + (width - 1)) 0))

  pub member_agree : Names → Nodes → Agree ((lists b).place e at) ((lists b).place e' at')
  member_agree f a = go b refl w
    where
      go : (c : Bool) → b ≡ c → width ≡ member_cells c → Agree ((lists c).place e at) ((lists c).place e' at')
      go true q v = pair_agree (f q) (rw v at a)
      go false q v = rw v at a

  pub member-parts : Agree ((lists b).place e at) ((lists b).place e' at') → Names × Nodes
  member-parts = go b refl w
    where
      go : (c : Bool) → b ≡ c → width ≡ member_cells c → Agree ((lists c).place e at) ((lists c).place e' at') → Names × Nodes
      go true q v a = let p = pair_parts _ _ _ _ a in (λ s. p.0, rw v p.1)
      go false q v a = (λ s. absurd (false≢true (sym q ∙ s)), rw v a)

-- what decides the list decides the part
module _ (e e' : Env) (xs xs' : List ℕ) (p p' : ℕ) (order : Order) (o : ℕ) where
  pub last-list : {b : Bool} {r r' : Run} {l : Last} (named : Bool) → l ≡ L.Nodes o named → IsLast order (Some l)
      → r ≡ run_at xs (p + o) → r' ≡ run_at xs' (p' + o)
      → Decides b (Agree ((lists named).list e r) ((lists named).list e' r')) → Decides b (PartsAgree e e' (number order) xs p xs' p' 5)
  last-list true m f q q' d =
      let k = rw m at f in
      last-fields e e' xs xs' p p' (number order) k.0 (rw k.1 q) (rw k.1 q') d
  last-list false m f q q' d =
      let k = rw m at f in
      last-nodes e e' xs xs' p p' (number order) k.0 (rw k.1 q) (rw k.1 q') d
