use Rattle.std.proofs.Common.{false, List, ℕ, length}
use Rattle.std.proofs.lemmas.Bool.{iff_false, false≢true}
use Rattle.rpki_der.specs.TagName.{printable_string}
use Rattle.rpki_der.specs.Values.{SpellsLeaf}
use Rattle.rpki_der.specs.Text.{IsPrintableText}
use Rattle.rpki_cert.specs.NameValues.{IsNameSize}
use Rattle.rpki_cert.proofs.NameValueLaws.{sized-holds, sized-whole, sized-unread}
use Rattle.rpki_cert.proofs.profile.name_values.is_sized_printable.Goals as goal

pub returns-then-is_name_size : goal.returns-then-is_name_size
returns-then-is_name_size c =
    let size = rw c.rest.ensures at c.is_name_size.ensures in
    sized-whole (SpellsLeaf printable_string false IsPrintableText) (λ (text : List ℕ). IsNameSize (length text))
    c.args.value.now _ _ (rw c.from_slice-after.ensures at c.in-Ok.ensures) _ (size.0 c.if-is_name_size.true)
    c.is_empty.ensures

pub returns-else-is_name_size : goal.returns-else-is_name_size
returns-else-is_name_size c =
    let size = rw c.rest.ensures at c.is_name_size.ensures in (
      λ z. absurd (false≢true (rw c.if-is_name_size.false at z)),
      λ g. absurd (iff_false size c.if-is_name_size.false
          (sized-holds (SpellsLeaf printable_string false IsPrintableText) (λ (text : List ℕ). IsNameSize (length text))
          c.args.value.now _ _ (rw c.from_slice-after.ensures at c.in-Ok.ensures) g)),
    )

pub returns-in-Err : goal.returns-in-Err
returns-in-Err c =
    sized-unread printable_string false IsPrintableText (λ (text : List ℕ). IsNameSize (length text))
    c.args.value.now _ _
    (rw c.from_slice-after.ensures at c.in-Err.ensures)
