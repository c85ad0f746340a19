use Rattle.std.proofs.Common.{false, refl, length, take, drop, ◌-◌, ap, ◌∙◌}
use Rattle.std.specs.Prelude.{get_or}
use Rattle.std.proofs.lemmas.Bool.{iff_false}
use Rattle.std.proofs.lemmas.List.{take_rest}
use Rattle.rpki_der.specs.Cursor.{left}
use Rattle.rpki_der.specs.Leaves.{IsBits, bits_of}
use Rattle.rpki_der.specs.TagName.{bit_string}
use Rattle.rpki_der.proofs.LeavesLaws.{leaf-refused, leaf-accepted, leaf-malformed, bits-one, bits-empty, bits-unread}
use Rattle.rpki_der.proofs.LeavesLaws.{bits-read}
use Rattle.rpki_der.proofs.TriedLaws.{tried-refused}
use Rattle.rpki_der.proofs.cursor.Constructed.take_bits.Goals as goal

pub returns-in_err-contents : goal.returns-in_err-contents
returns-in_err-contents c = tried-refused _ _ _ _ _ _ _ c.from_residual.ensures
    (leaf-refused bit_string false IsBits _ _ _ c.in_err-contents.field-0.0 refl c.in_err-contents.ensures)

pub returns-in_default : goal.returns-in_default
returns-in_default c =
    leaf-malformed bit_string false IsBits _ (left c.in_ok-contents.contents) _ _ _ _ c.content.ensures refl
    c.in_ok-contents.ensures
    (bits-empty (left c.in_ok-contents.contents) (rw (← c.rest.ensures) c.in_default.len_below))

pub returns-then-not-is_legal : goal.returns-then-not-is_legal
returns-then-not-is_legal c =
    leaf-malformed bit_string false IsBits _ (left c.in_ok-contents.contents) _ _ _ _
    c.content-then-not-is_legal.ensures refl c.in_ok-contents.ensures
    (bits-unread c.rest.result.now (left c.in_ok-contents.contents) c.rest.ensures c.in-len1-up.len_at_least
    (iff_false c.is_legal.ensures c.if-not-is_legal.true))

pub returns : goal.returns
returns c =
    let s = c.rest.result.now in
    let m = left c.in_ok-contents.contents in
    let b = bits_of (get_or s 0 0) (take (length s - 1) (drop 1 s)) in
    let is = bits-read s m (take (length s - 1) (drop 1 s)) b c.rest.ensures c.in-len1-up.len_at_least
    (c.is_legal.ensures.0 c.if-not-is_legal.false) (take_rest s 1 ∙ ap (drop 1) c.rest.ensures) refl in
    leaf-accepted bit_string false IsBits _ m _ b c.in_ok-contents.ensures is (λ w p. bits-one b m w is p)
