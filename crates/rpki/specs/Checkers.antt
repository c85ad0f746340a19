-- What a provider checks and digests with, all together: the four models that each `impl Provider` writes.
use Rattle.rpki.specs.declared.crypto.Provider.{Ghosts}
use Rattle.rpki.specs.Provider.{Checkers}

-- the models of providers of a type
abbrev pub Models : Type 0 → Type 1
Models X = Ghosts X

-- those of one provider
abbrev pub checkers_of : {X : Type 0} → Models X → X → Checkers
checkers_of models provider = record {
  rsa = models.rsa_of provider;
  ecdsa = models.ecdsa_of provider;
  sha1 = models.sha1_of provider;
  sha256 = models.sha256_of provider;
}
