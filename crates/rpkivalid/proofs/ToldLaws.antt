-- What lists a file.
use Rattle.std.proofs.Common.{◌≡◌, ℕ, true, List, refl}
use Rattle.std.specs.Prelude.{Option}
use Rattle.rpki_validation.specs.declared.reason.Reason.{Reason}
use Rattle.rpki_validation.specs.declared.reason.Reason.TheVariants.{Missing, MissingFile}
use Rattle.rpkivalid.specs.Told.{is_at, is_same, listed_line, manifest_line, wanted_line}

pub wanted-file : (name uri : List ℕ) (place : Option (List ℕ)) (reason : Reason) (missing : List ℕ)
    → reason ≡ MissingFile missing → is_same uri missing ≡ true
    → wanted_line name uri place reason ≡ listed_line name place
wanted-file name uri place reason missing is same = rw (is, same) refl

pub wanted-manifest : (name uri : List ℕ) (place : Option (List ℕ)) (reason : Reason) → reason ≡ Missing
    → is_at uri place ≡ true → wanted_line name uri place reason ≡ manifest_line name
wanted-manifest name uri place reason is at = rw (is, at) refl
