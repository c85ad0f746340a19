use Rattle.rpki_der.specs.TagName.{context_6}
use Rattle.rpki_der.proofs.EncodeLaws.{tlv-same-one}
use Rattle.std.proofs.Common.{List, ℕ, false, ap}
use Rattle.rpki_der.specs.Header.{tlv}
use Rattle.rpki_text.proofs.uri.rsync.Rsync.encode_general_name.Goals as goal

pub returns-clause-same : goal.returns-clause-same
returns-clause-same c = λ other short. (
  λ e. tlv-same-one context_6 false c.args.self.now other short e,
  λ e. ap (λ (x : List ℕ). tlv context_6 false x) e,
)
