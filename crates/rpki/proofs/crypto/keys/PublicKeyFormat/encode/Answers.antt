use Rattle.std.proofs.Common.{lit<, append-nil}
use Rattle.rpki.specs.declared.crypto.keys.PublicKeyFormat.TheVariants.{Rsa, EcdsaP256}
use Rattle.rpki.proofs.FormatLaws.{format-short, format-spelled}
use Rattle.rpki.proofs.PublicKeyLaws.{format-same}
use Rattle.rpki.proofs.crypto.keys.PublicKeyFormat.encode.Goals as goal

pub returns-in-Rsa-clause-same : goal.returns-in-Rsa-clause-same
returns-in-Rsa-clause-same c = λ other. format-same c.args.self other

pub returns-in-EcdsaP256-clause-same : goal.returns-in-EcdsaP256-clause-same
returns-in-EcdsaP256-clause-same c = λ other. format-same c.args.self other

pub returns-in-Rsa-clause-read_back : goal.returns-in-Rsa-clause-read_back
returns-in-Rsa-clause-read_back c = format-spelled c.args.self

pub returns-in-EcdsaP256-clause-read_back : goal.returns-in-EcdsaP256-clause-read_back
returns-in-EcdsaP256-clause-read_back c = format-spelled c.args.self

pub returns-in-Rsa-clause-short : goal.returns-in-Rsa-clause-short
returns-in-Rsa-clause-short c =
    rw c.new.ensures (
      (c.encode-in-Rsa.ensures.short.1 (lit< tt), c.encode.ensures.short.1 (lit< tt), tt),
      rw (c.encode-in-Rsa.ensures.encoded, c.encode.ensures.encoded, append-nil) (format-short Rsa),
    )

pub returns-in-EcdsaP256-clause-short : goal.returns-in-EcdsaP256-clause-short
returns-in-EcdsaP256-clause-short c =
    rw c.new-in-EcdsaP256.ensures (
      (c.encode-in-EcdsaP256-2.ensures.short.1 (lit< tt), tt, c.encode-in-EcdsaP256.ensures.short.1 (lit< tt)),
      rw (c.encode-in-EcdsaP256-2.ensures.encoded, c.encode-in-EcdsaP256.ensures.encoded, append-nil)
          (format-short EcdsaP256),
    )
