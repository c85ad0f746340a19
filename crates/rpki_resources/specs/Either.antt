-- What an encoder stands for that is one or another.
use Rattle.rpki_resources.specs.declared.encode.either.Either.{Either}
use Rattle.rpki_resources.specs.declared.encode.either.Either.TheVariants.{One, Other}

-- what is of the one, or of the other
abbrev pub either_of : {A B C : Type 0} → (A → C) → (B → C) → Either A B → C
either_of f g (One a) = f a
either_of f g (Other b) = g b

-- the fact of the one, or of the other
abbrev pub OfEither : {A B : Type 0} → (A → Type 0) → (B → Type 0) → Either A B → Type 0
OfEither P Q (One a) = P a
OfEither P Q (Other b) = Q b
