use Rattle.std.proofs.Common.{◌≡◌, ◌≢◌, ◌∷◌, ◌++◌, [], refl, arith, length-append}
use Rattle.rpki_contents.proofs.InPlaceLaws.{left-some, left-none}
use Rattle.rpki_der.specs.Prelude.{AtMember}
use Rattle.rpki_der.proofs.ReadingLaws.{UnlessMemory-from}
use Rattle.rpki_contents.proofs.FilesLaws.{at-start, one-more, all-behind, nothing-here, shorter}
use Rattle.rpki_contents.proofs.files.count_files.Goals as goal

pub files-init : goal.files-init
files-init c = record { read = ([], at-start c.args.octets.now, refl); few = omega arith }

pub overflow_add-count : goal.overflow_add-count
overflow_add-count c =
    let h = c.in-Ok.ensures.ok in
    let less = shorter c.files.rest.now _ h.0 h.1 in
    record { fits = omega (arith, c.files.invariant.few, less) }

pub files-preserved : goal.files-preserved
files-preserved c =
    let so = c.files.invariant.read in
    let some : c.files.rest.now ≢ [] = left-some c.files.rest.now _ c.is_empty.ensures c.files-test.true in
    let h = c.in-Ok.ensures.ok in
    let less = shorter c.files.rest.now _ h.0 h.1 in
    record {
      read = (
        so.0 ++ h.0 ∷ [],
        one-more c.args.octets.now c.files.rest.now _ so.0 h.0 so.1 some h.1,
        omega (arith, length-append so.0 (h.0 ∷ []), so.2),
      );
      few = omega (arith, less, c.files.invariant.few);
    }

pub returns-in-Err : goal.returns-in-Err
returns-in-Err c =
    let so = c.files.invariant.read in
    let some : c.files.rest.now ≢ [] = left-some c.files.rest.now _ c.is_empty.ensures c.files-test.true in
    let none = c.in-Err.ensures.err in (
      so.1.nothing (nothing-here c.files.rest.now some none.0),
      so.1.error c.in-Err.e (AtMember some (UnlessMemory-from c.in-Err.e none.0) none.1),
    )

pub returns : goal.returns
returns c =
    let so = c.files.invariant.read in
    let end : c.files.rest.now ≡ [] = left-none c.files.rest.now _ c.is_empty.ensures c.files-test.false in
    (so.0, all-behind c.args.octets.now c.files.rest.now so.0 so.1 end, so.2)
