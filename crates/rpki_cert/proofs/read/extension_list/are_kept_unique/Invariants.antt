use Rattle.std.proofs.Common.{◌≡◌, ℕ, List, length, Bor}
use Rattle.std.specs.Ordering.{nat_cmp}
use Rattle.std.specs.Cmp.Lexicographic.{slice_cmp}
use Rattle.std.specs.BTreeSet as tree
use Rattle.rpki_der.specs.Cursor.{left}
use Rattle.rpki.specs.ExtensionValue.{ExtensionParts}
use Rattle.rpki_cert.specs.Cert.{find, is_there}
use Rattle.rpki_cert.proofs.UniqueLaws.{KeepsApart}
use Rattle.rpki_cert.proofs.read.extension_list.are_kept_unique.Given as goal

abbrev pub invariant-extensions : goal.invariant-extensions
invariant-extensions l =
    (seen : List ExtensionParts)
    × ((q : Bor (List ℕ)) → tree.contains (λ (x y : Bor (List ℕ)). slice_cmp nat_cmp x.now y.now) l.seen q
    ≡ is_there (find q.now seen))
    × KeepsApart seen (left l.fn.list) (left l.rest)

abbrev pub decreases-extensions : goal.decreases-extensions
decreases-extensions l = length (left l.rest)
