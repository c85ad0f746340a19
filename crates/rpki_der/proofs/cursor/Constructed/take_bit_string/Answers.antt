use Rattle.std.proofs.Common.{false, refl, ◌∙◌}
use Rattle.std.proofs.lemmas.Bool.{iff_false}
use Rattle.rpki_der.specs.Cursor.{left}
use Rattle.rpki_der.specs.Leaves.{IsBits}
use Rattle.rpki_der.specs.Reading.{Finds}
use Rattle.rpki_der.specs.TagName.{bit_string}
use Rattle.rpki_der.specs.Values.{IsLeafFault, SpellsLeaf}
use Rattle.rpki_der.proofs.ReadingLaws.{Refusal-or-memory-where}
use Rattle.rpki_der.proofs.LeavesLaws.{leaf-refused, leaf-accepted, leaf-malformed, bits-one, bits-empty, bits-unread}
use Rattle.rpki_der.proofs.LeavesLaws.{bits-read}
use Rattle.rpki_der.proofs.KeepLaws.{tail-of, tail-stands}
use Rattle.rpki_der.proofs.TriedLaws.{tried-refused}
use Rattle.rpki_der.proofs.cursor.Constructed.take_bit_string.Goals as goal

pub returns-in_err-contents : goal.returns-in_err-contents
returns-in_err-contents g c = tried-refused _ _ _ _ _ _ _ c.from_residual.ensures
    (Refusal-or-memory-where (Finds (SpellsLeaf bit_string false IsBits)) (IsLeafFault bit_string false IsBits) _ _
    c.in_err-contents.field-0.0 (λ z. absurd z)
    (leaf-refused bit_string false IsBits _ _ _ c.in_err-contents.field-0.0 refl c.in_err-contents.ensures))

pub returns-in_default : goal.returns-in_default
returns-in_default g c =
    Refusal-or-memory-where (Finds (SpellsLeaf bit_string false IsBits)) (IsLeafFault bit_string false IsBits) _ _ _
    (λ z. absurd z)
    (leaf-malformed bit_string false IsBits _ (left c.in_ok-contents.contents) _ _ _ _ c.content.ensures refl
    c.in_ok-contents.ensures
    (bits-empty (left c.in_ok-contents.contents) (rw (← c.rest.ensures) c.in_default.len_below)))

pub returns-then-not-is_legal : goal.returns-then-not-is_legal
returns-then-not-is_legal g c =
    Refusal-or-memory-where (Finds (SpellsLeaf bit_string false IsBits)) (IsLeafFault bit_string false IsBits) _ _ _
    (λ z. absurd z)
    (leaf-malformed bit_string false IsBits _ (left c.in_ok-contents.contents) _ _ _ _
    c.content-then-not-is_legal.ensures refl c.in_ok-contents.ensures
    (bits-unread c.rest.result.now (left c.in_ok-contents.contents) c.rest.ensures c.in-len1-up.len_at_least
    (iff_false c.is_legal.ensures c.if-not-is_legal.true)))

pub returns : goal.returns
returns g c =
    let is = bits-read c.rest.result.now (left c.in_ok-contents.contents) c.in_ok-bytes.bytes c.new.result
    c.rest.ensures c.in-len1-up.len_at_least
    (c.is_legal.ensures.0 c.if-not-is_legal.false) (c.in_ok-bytes.ensures ∙ tail-of _ _ c.rest.ensures) c.new.ensures in
    leaf-accepted bit_string false IsBits _ (left c.in_ok-contents.contents) _ c.new.result c.in_ok-contents.ensures is
    (λ w p. bits-one c.new.result (left c.in_ok-contents.contents) w is p)

pub keep_part-requires-clause-stands : goal.keep_part-requires-clause-stands
keep_part-requires-clause-stands g c =
    tail-stands bit_string false _ _ _ _ c.in_ok-contents.ensures.spells c.rest.ensures
