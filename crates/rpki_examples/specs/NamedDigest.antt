-- A structure in place, as a function of its octets: SEQUENCE { name IA5String OPTIONAL, digest OCTET STRING (SIZE
-- (32)) }.
use Rattle.std.specs.Prelude.{ℕ, true, List, Option, Ok}
use Rattle.rpki_der.specs.Prelude.{sequence, octet_string}
use Rattle.rpki_der.specs.TagName.{ia5_string}
use Rattle.rpki_parse.specs.Words.{Parser, bind}
use Rattle.rpki_parse.specs.Value.{ended, value_at}
use Rattle.rpki_parse.specs.Leaf.{ia5_in, leaf_at, sized_in}
use Rattle.rpki_parse.specs.Optional.{optional_at}
use Rattle.rpki_examples.specs.declared.named_digest.NamedDigest.{NamedDigest}

-- the octets of the name, if any; the digest
abbrev pub parts_of : NamedDigest → Option (List ℕ) × List ℕ
parts_of x = (x.name, x.digest)

abbrev pub name_at : Parser (Option (List ℕ))
name_at = optional_at ia5_string (leaf_at ia5_string ia5_in)

-- the two, in order, and nothing else
abbrev pub named_digest : Parser (Option (List ℕ) × List ℕ)
named_digest s =
    bind (value_at sequence true s) (λ c.
    bind (name_at c.0) (λ n.
    bind (leaf_at octet_string (sized_in 32) n.1) (λ d.
    bind (ended d.1) (λ _. Ok ((n.0, d.0), c.1)))))
