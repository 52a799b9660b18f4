-- `text::put_text` meets its contract.
use Rattle.std.proofs.Common.{rules, arith, length, ◌≡◌, ◌+◌, ◌-◌, ◌++◌, [], ◌∷◌, ◌∙◌, sym}
use Rattle.std.proofs.lemmas.List.{take-append-drop, drop_more, length-drop}
use Rattle.std.proofs.lemmas.Slice.{put_mid-paste}
use Rattle.text.proofs.EmitLaws.{pasted, left_all, left_front, left_less, left_none}
use Rattle.text.proofs.put_text.Goals as goal

pub loop-eight-init : goal.loop-eight-init
loop-eight-init c = left_all (λ i. search rules)

pub loop-eight-preserved : goal.loop-eight-preserved
loop-eight-preserved c =
    let eight = c.in-Some.eight.now in
    let n : length eight ≡ 8 = search rules in
    let all : eight ++ c.in-Some.more.now ≡ c.loop-eight.rest.now = rw (c.in-Some.ensures.cases.0, c.in-Some.ensures.cases.1) (take-append-drop 8 c.loop-eight.rest.now) in
    let p = pasted eight c.loop-eight.out c.loop-eight.to 8 (left_front eight c.in-Some.more.now all c.loop-eight.invariant) n (omega arith) (omega arith) in
    let e = put_mid-paste c.loop-eight.to (c.loop-eight.to + 8 - c.loop-eight.to) c.loop-eight.out c.copy_from_slice.new.self eight 8 c.copy_from_slice.ensures.after (omega arith) (sym n) in
    left_less eight all c.loop-eight.invariant (rw e p)

pub loop-b-preserved : goal.loop-b-preserved
loop-b-preserved c = left_less (_ ∷ []) (sym (drop_more c.loop-eight.rest.now c.loop-b.b-index 0 (omega arith))) c.loop-b.invariant c.put-to.ensures

pub returns : goal.returns
returns c = left_none _ (length-drop c.loop-b.b-index c.loop-eight.rest.now ∙ omega arith) c.loop-b.invariant
