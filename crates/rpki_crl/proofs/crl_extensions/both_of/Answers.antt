use Rattle.rpki_crl.proofs.ExtensionsLaws.{none-as, said-is}
use Rattle.rpki_crl.proofs.crl_extensions.both_of.Goals as goal

pub returns-in_err-authority_key_identifier-clause-none : goal.returns-in_err-authority_key_identifier-clause-none
returns-in_err-authority_key_identifier-clause-none c =
    none-as c.from_residual.result (λ v a n. c.in_err-authority_key_identifier.ensures.none v.authority a)

pub returns-in_err-crl_number-clause-none : goal.returns-in_err-crl_number-clause-none
returns-in_err-crl_number-clause-none c =
    none-as c.from_residual-in_err-crl_number.result (λ v a n. c.in_err-crl_number.ensures.none v.number n)

pub returns-clause-only : goal.returns-clause-only
returns-clause-only c v a n =
    said-is v _ _ (c.in_ok-authority_key_identifier.ensures.only v.authority a)
    (c.in_ok-crl_number.ensures.only v.number n)
