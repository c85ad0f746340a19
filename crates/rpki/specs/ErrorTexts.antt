-- Texts of errors.
use Rattle.std.specs.Prelude.{ℕ, List, codes}
use Rattle.rpki_time.specs.declared.validity.ValidityPeriodError.{ValidityPeriodError}
use Rattle.rpki_time.specs.declared.validity.ValidityPeriodError.TheVariants.{TooNew, TooOld}

abbrev pub verification_text : List ℕ
verification_text = codes "signature verification failed"

abbrev pub slice_text : List ℕ
slice_text = codes "invalid slice for key identifier"

abbrev pub parse_text : List ℕ
parse_text = codes "invalid key identifier"

-- of a certificate outside its period
abbrev pub period_text : ValidityPeriodError → List ℕ
period_text TooNew = codes "certificate is not yet valid"
period_text TooOld = codes "certificate has expired"
