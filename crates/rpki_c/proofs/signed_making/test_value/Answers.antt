use Rattle.std.proofs.Common.{◌≡◌, ◌∙◌, List, ℕ, take, drop, sym, subst}
use Rattle.std.proofs.lemmas.Result.{err_from_is_err_and}
use Rattle.rpki_der.specs.Cursor.{left}
use Rattle.rpki_der.specs.Reading.{Accepts}
use Rattle.rpki_der.specs.Members.{SpellsValue}
use Rattle.rpki_der.proofs.ComposedLaws.{all-read, more-left, not-read}
use Rattle.rpki_c.specs.Signed.{IsWalkedFault}
use Rattle.rpki_c.proofs.signed_making.test_value.Goals as goal

-- the value at the front, as the slice is split
split-value : (s m : List ℕ) (n : ℕ) → m ≡ drop n s → Accepts SpellsValue s (take n s) (drop n s)
    → Accepts SpellsValue s (take n s) m
split-value s m n q a = rw q a

-- all of the octets are that value
whole-value : (s d : List ℕ) → SpellsValue d s × ((w : List ℕ) → SpellsValue w s → w ≡ d)
    → SpellsValue s s × ((w : List ℕ) → SpellsValue w s → w ≡ s)
whole-value s d h =
    subst (λ (x : List ℕ). SpellsValue x s × ((w : List ℕ) → SpellsValue w s → w ≡ x)) (sym h.0.same) h

pub returns-in_err-size : goal.returns-in_err-size
returns-in_err-size c =
    let s = c.args.octets.now in
    let p = err_from_is_err_and c.from_residual.result c.from_residual.ensures.1 in
    rw (p.1, p.2) (not-read SpellsValue IsWalkedFault s _ c.in_err-size.field-0.0 c.in_err-size.ensures.refused)

pub returns-in_err-finish : goal.returns-in_err-finish
returns-in_err-finish c =
    let s = c.args.octets.now in
    let behind = c.from_slice-rest.ensures ∙ c.split_at.ensures.back in
    let one = split-value s (left c.from_slice-rest.result) c.in_ok-size.size behind c.in_ok-size.ensures.accepted in
    let p = err_from_is_err_and c.from_residual-in_err-finish.result c.from_residual-in_err-finish.ensures.1 in
    let more = more-left SpellsValue IsWalkedFault s _ _ one c.in_err-finish.ensures.1 in
    rw (p.1, p.2) (rw c.in_err-finish.ensures.0 more)

pub returns : goal.returns
returns c =
    let s = c.args.octets.now in
    let behind = c.from_slice-rest.ensures ∙ c.split_at.ensures.back in
    let one = split-value s (left c.from_slice-rest.result) c.in_ok-size.size behind c.in_ok-size.ensures.accepted in
    whole-value s _ (all-read SpellsValue s _ _ one c.in_ok-finish.ensures)
