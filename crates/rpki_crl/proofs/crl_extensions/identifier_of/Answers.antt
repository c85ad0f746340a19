use Rattle.std.proofs.Common.{rules}
use Rattle.rpki_der.proofs.InsideLaws.{read-whole}
use Rattle.rpki_x509.specs.Authority.{SpellsAuthority}
use Rattle.rpki_crl.proofs.crl_extensions.identifier_of.Goals as goal
use Rattle.rpki_x509.specs.Authority.{authority_content}

pub returns : goal.returns
returns c = read-whole (λ k. k) SpellsAuthority authority_content.fault _ (λ b a x h. search rules) _ _ c.whole.ensures
