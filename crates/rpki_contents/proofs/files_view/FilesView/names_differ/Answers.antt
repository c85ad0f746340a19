use Rattle.std.proofs.Common.{◌<◌, ℕ, List, length, arith, refl}
use Rattle.std.proofs.Math.ListN.{set, length-set}
use denote.Bor.{Bor}
use Rattle.rpki_contents.proofs.NamesLaws.{files-differ}
use Rattle.rpki_contents.proofs.RoomLaws.{none-placed, one-placed, placed-fits, all-placed}
use Rattle.rpki_contents.proofs.files_view.FilesView.names_differ.Goals as goal

pub names-init : goal.names-init
names-init c = record {
  placed = none-placed c.args.self.now c.args.room.now c.files-cursor.result c.files-cursor.ensures.files;
  few = omega arith;
}

pub bounds-room-count : goal.bounds-room-count
bounds-room-count c =
    let held = c.files-cursor.ensures.held in
    let less = placed-fits c.names.room c.names.count c.names.cursor c.next_file.new.self held.0 c.in-Some.file
    c.in-Some.ensures.given (c.names.invariant.placed held.0 held.1) in
    omega (arith, less, held.1.count, c.names.auto.room, c.requires)

pub names-preserved : goal.names-preserved
names-preserved c =
    let held = c.files-cursor.ensures.held in
    let less = placed-fits c.names.room c.names.count c.names.cursor c.next_file.new.self held.0 c.in-Some.file
    c.in-Some.ensures.given (c.names.invariant.placed held.0 held.1) in
    let within : c.names.count < length c.names.room =
    omega (arith, less, held.1.count, c.names.auto.room, c.requires) in
    record {
      placed = λ all h.
          one-placed c.names.room c.names.count c.names.cursor c.next_file.new.self all c.in-Some.file
          c.in-Some.ensures.given (c.names.invariant.placed all h)
          (set c.names.room c.names.count c.in-Some.file.name) refl within;
      few = omega (arith, length-set {A = Bor (List ℕ)}, within);
    }

pub returns : goal.returns
returns c = λ all h.
    let names = all-placed c.names.room c.names.count c.names.cursor c.next_file.new.self all
    c.in_default.ensures.given (c.names.invariant.placed all h) in
    let same = files-differ _ all names in
    let found = c.differ.ensures in
    (λ z. same.0 (found.0 z), λ k. found.1 (same.1 k))
