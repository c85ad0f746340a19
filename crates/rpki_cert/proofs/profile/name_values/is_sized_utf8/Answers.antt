use Rattle.std.proofs.Common.{false, List, ℕ}
use Rattle.std.specs.List.{count_by}
use Rattle.std.proofs.lemmas.Bool.{iff_false, false≢true}
use Rattle.rpki_der.specs.TagName.{utf8_string}
use Rattle.rpki_der.specs.Values.{SpellsLeaf}
use Rattle.rpki_der.specs.Text.{IsUtf8Text}
use Rattle.rpki_cert.specs.NameValues.{IsNameSize, begins_character}
use Rattle.rpki_cert.proofs.NameValueLaws.{sized-holds, sized-whole, sized-unread}
use Rattle.rpki_cert.proofs.profile.name_values.is_sized_utf8.Goals as goal

pub returns-then-is_name_size : goal.returns-then-is_name_size
returns-then-is_name_size c =
    let size = rw (c.characters.ensures, c.rest.ensures) at c.is_name_size.ensures in
    sized-whole (SpellsLeaf utf8_string false IsUtf8Text)
    (λ (text : List ℕ). IsNameSize (count_by begins_character text))
    c.args.value.now _ _ (rw c.from_slice-after.ensures at c.in-Ok.ensures) _ (size.0 c.if-is_name_size.true)
    c.is_empty.ensures

pub returns-else-is_name_size : goal.returns-else-is_name_size
returns-else-is_name_size c =
    let size = rw (c.characters.ensures, c.rest.ensures) at c.is_name_size.ensures in (
      λ z. absurd (false≢true (rw c.if-is_name_size.false at z)),
      λ g. absurd (iff_false size c.if-is_name_size.false
          (sized-holds (SpellsLeaf utf8_string false IsUtf8Text)
          (λ (text : List ℕ). IsNameSize (count_by begins_character text))
          c.args.value.now _ _ (rw c.from_slice-after.ensures at c.in-Ok.ensures) g)),
    )

pub returns-in-Err : goal.returns-in-Err
returns-in-Err c =
    sized-unread utf8_string false IsUtf8Text (λ (text : List ℕ). IsNameSize (count_by begins_character text))
    c.args.value.now _ _
    (rw c.from_slice-after.ensures at c.in-Err.ensures)
