-- The brackets about a single import path are struck out, which the code does not see.
use Rattle.std.proofs.Common.{ℕ, Bool, true, false, eqb, List, [], ◌∷◌, ◌++◌, length}
use Rattle.rules.specs.Tree.{State, Result, ok, err}
use Rattle.rules.specs.Combinators.{Rule}
use Rattle.rules.specs.Rules.{strike_single}
use Rattle.parser_state.specs.Represents.{Code, Kept}
use Rattle.parser_state.specs.Refines.{Ends, RefinesBy}
use Rattle.parser_state.proofs.Steps.{noted, represents_noted}

module _ {kept : Kept} {tokens : List ℕ} {x : Rule (List (List ℕ))} {Q : List (List ℕ) → Type 0} {grow : List (List ℕ) → List ℕ → List ℕ} {r l d r' l' : ℕ} {s s' : Code} where
  pub strike_as : RefinesBy kept tokens r l x Q grow d r' l' s s' → RefinesBy kept tokens r l (strike_single x) Q grow d r' l' s s'
  unfolding strike_single
  strike_as p = record { sticky = p.sticky; same = p.same; monotone = p.monotone; progress = p.progress; simulates = λ R L stack m h. go R L stack m (x m) (p.simulates R L stack m h) }
    where
      one : (R L : ℕ) (stack : List ℕ) (m t : State) (ps : List (List ℕ)) (b : Bool) → Ends tokens Q grow s' R L r' l' stack (ok ps t)
          → Ends tokens Q grow s' R L r' l' stack (elim b as (λ _. Result (List (List ℕ))) [ true ↦ ok ps (noted t (record { marks = m.notes.marks ++ (false ∷ true ∷ false ∷ []); after_default = t.notes.after_default })) | false ↦ ok ps t ])
      one R L stack m t ps true h = (h.0, represents_noted _ h.1)
      one R L stack m t ps false h = h

      go : (R L : ℕ) (stack : List ℕ) (m : State) (res : Result (List (List ℕ))) → Ends tokens Q grow s' R L r' l' stack res
          → Ends tokens Q grow s' R L r' l' stack (elim res as (λ _. Result (List (List ℕ))) [
            | ok ps t ↦ elim (eqb (length ps) 1) [ true ↦ ok ps (noted t (record { marks = m.notes.marks ++ (false ∷ true ∷ false ∷ []); after_default = t.notes.after_default })) | false ↦ ok ps t ]
            | err e t ↦ err e t
          ])
      go R L stack m (ok ps t) h = one R L stack m t ps (eqb (length ps) 1) h
      go R L stack m (err e t) h = h
