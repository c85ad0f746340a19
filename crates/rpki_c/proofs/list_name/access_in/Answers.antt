use Rattle.std.proofs.Common.{true}
use Rattle.std.specs.Option.{option_copied}
use Rattle.rpki_der.specs.Prelude.{sequence, SpellsSome}
use Rattle.rpki_cert.specs.Access.{Through, SpellsDescription}
use Rattle.rpki_cert.proofs.GatherLaws.{leaf-all, leaf-none}
use Rattle.rpki_c.specs.ListName.{first_folder}
use Rattle.rpki_c.proofs.list_name.access_in.Goals as goal

pub returns-in-Ok : goal.returns-in-Ok
returns-in-Ok c =
    leaf-all sequence true (Through first_folder (SpellsSome SpellsDescription)) _ option_copied _
    c.folders_in.result (rw c.from_slice.ensures at c.in-Ok.ensures.gives) c.folders_in.ensures

pub returns-in-Err : goal.returns-in-Err
returns-in-Err c =
    leaf-none sequence true (Through first_folder (SpellsSome SpellsDescription)) _
    (rw c.from_slice.ensures at c.in-Err.ensures.gives)
