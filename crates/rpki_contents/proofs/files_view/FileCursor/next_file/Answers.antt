use Rattle.std.proofs.Common.{◌≢◌, [], refl}
use Rattle.std.proofs.lemmas.Bool.{iff_false}
use Rattle.rpki_der.specs.Cursor.{left}
use Rattle.rpki_contents.specs.ManifestView.{file_in}
use Rattle.rpki_contents.proofs.FilesLaws.{gives-none, gives-next, left-after, never-refused, no-file, shorter}
use Rattle.rpki_contents.proofs.files_view.FileCursor.next_file.Goals as goal

pub returns-then-is_empty-clause-given : goal.returns-then-is_empty-clause-given
returns-then-is_empty-clause-given c =
    rw (← c.self.view_is) (gives-none (left c.self.inside.rest) (c.is_empty.ensures.0 c.if-is_empty.true))

pub invariant_of-self : goal.invariant_of-self
invariant_of-self c =
    let some : left c.self.inside.rest ≢ [] = iff_false c.is_empty.ensures c.if-is_empty.false in
    left-after (left c.self.inside.rest) some (file_in c.in-Ok.file) _ c.in-Ok.ensures c.self.invariant

pub returns-in-Ok-clause-given : goal.returns-in-Ok-clause-given
returns-in-Ok-clause-given c =
    let some : left c.self.inside.rest ≢ [] = iff_false c.is_empty.ensures c.if-is_empty.false in
    rw (← c.self.view_is)
    (gives-next (left c.self.inside.rest) some (file_in c.in-Ok.file) _ c.in-Ok.ensures c.in-Ok.file refl)

pub returns-in-Err-clause-given : goal.returns-in-Err-clause-given
returns-in-Err-clause-given c = λ xs h.
    let some : left c.self.inside.rest ≢ [] = iff_false c.is_empty.ensures c.if-is_empty.false in
    let k = c.self.invariant in
    absurd (never-refused (left c.self.inside.rest) some (no-file _ _ c.in-Err.field-0 c.in-Err.ensures) k.0 k.1)

pub returns-in-Ok-clause-shorter : goal.returns-in-Ok-clause-shorter
returns-in-Ok-clause-shorter c =
    let less = shorter (left c.self.inside.rest) _ (file_in c.in-Ok.file) c.in-Ok.ensures in
    rw (← c.self.view_is) less
