use Rattle.std.proofs.lemmas.Bool.{false≢true}
use Rattle.rpki_cert.proofs.GeneralNameLaws.{directory-there, directory-end, directory-none}
use Rattle.rpki_x509.proofs.NameViewLaws.{name-refused}
use Rattle.rpki_cert.proofs.extension.general_name.is_directory_name.Goals as goal

pub returns-in-Ok : goal.returns-in-Ok
returns-in-Ok c = (
  λ z. directory-there _ _ _ c.in-Ok.ensures (c.is_empty.ensures.0 z),
  λ h. c.is_empty.ensures.1 (directory-end _ _ _ c.in-Ok.ensures h),
)

pub returns-in-Err : goal.returns-in-Err
returns-in-Err c =
    let none = name-refused _ _ c.in-Err.field-0 c.in-Err.ensures in
    (λ z. absurd (false≢true z), λ h. absurd (directory-none _ none h))
