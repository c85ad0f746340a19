use Rattle.rpki.proofs.ExtensionLaws.{written-read, written-fits, written-same}
use Rattle.rpki.proofs.repository.x509.cert_extension.CertExtension.encode_ref.Goals as goal

pub encode_parts-requires : goal.encode_parts-requires
encode_parts-requires c = rw (c.id.ensures.value, c.critical.ensures, c.octets.ensures) c.id.ensures.writable

pub returns-clause-size : goal.returns-clause-size
returns-clause-size c = written-fits c.args.self.now c.id.ensures.writable

pub returns-clause-read_back : goal.returns-clause-read_back
returns-clause-read_back c = written-read c.args.self.now c.id.ensures.writable

pub returns-clause-same : goal.returns-clause-same
returns-clause-same c = λ other k. written-same c.args.self.now other c.id.ensures.writable k
