use Rattle.std.proofs.Common.{◌≢◌, ℕ, List, Ok, Err, rules, subst}
use Rattle.rpki_der.specs.declared.error.DecodeError.{DecodeError}
use Rattle.rpki_der.specs.declared.error.DecodeError.TheVariants.{OutOfMemory}
use Rattle.rpki_der.specs.Cursor.{left}
use Rattle.rpki_der.proofs.InsideLaws.{read-whole-exactly}
use Rattle.rpki_cert.specs.AccessDescription.{points}
use Rattle.rpki_cert.specs.ContentLaws.{points-never}
use Rattle.rpki_cert.proofs.extension.access_description.point_names.Goals as goal

never : (s : List ℕ) (e : DecodeError) → points.fault s e → e ≢ OutOfMemory
never s e h z = points-never s (subst (points.fault s) z h)

pub returns-in-Ok : goal.returns-in-Ok
returns-in-Ok c = rw c.rest.ensures (read-whole-exactly left points.spells points.fault never _
    (λ b a x h. search rules) _ (Ok c.in-Ok.names) (rw c.from_slice.ensures at c.in-Ok.ensures))

pub returns-in-Err : goal.returns-in-Err
returns-in-Err c = read-whole-exactly left points.spells points.fault never _ (λ b a x h. search rules) _
    (Err c.in-Err.e) (rw c.from_slice.ensures at c.in-Err.ensures)
