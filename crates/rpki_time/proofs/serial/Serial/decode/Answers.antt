use Rattle.std.proofs.Common.{false, rules}
use Rattle.rpki_der.specs.TagName.{integer}
use Rattle.rpki_der.proofs.InsideLaws.{read-whole-exactly}
use Rattle.rpki_der.proofs.LeavesLaws.{leaf-no-memory}
use Rattle.rpki_time.specs.Serial.{IsSerialContents, SpellsSerial, IsSerialFault}
use Rattle.rpki_time.proofs.serial.Serial.decode.Goals as goal

pub returns : goal.returns
returns c =
    read-whole-exactly (λ n. n) SpellsSerial IsSerialFault
    (λ s e k. leaf-no-memory integer false IsSerialContents s e k.0) _ (λ b a x h. search rules) _ _
    (rw c.from_slice.ensures at c.whole.ensures)
