-- What is to be explained.
use Rattle.std.specs.Prelude.{◌≡◌, ℕ, List, Option, Some, None}
use Rattle.rpki_payloads.specs.declared.route.Route.{Route}
use Rattle.rpki_resources.specs.declared.as_text.Asn.{Asn}
use Rattle.rpki_resources.specs.AsRead.{IsAsnText}
use Rattle.rpki_resources.specs.IpRead.{IsPrefixText}
use Rattle.rpki_text.specs.RsyncText.{rsync_refusal}
use Rattle.rpkivalid.specs.declared.question.Question.{Question}
use Rattle.rpkivalid.specs.declared.question.Question.TheVariants.{Object, Origin}

-- the word is an rsync URI, and the object at it is asked for
abbrev pub IsObjectQuestion : List ℕ → Question → Type 0
IsObjectQuestion word q = (rsync_refusal word ≡ None) × (q ≡ Object word)

-- the words are the route's prefix and its AS number
abbrev pub IsOriginQuestion : (word number : List ℕ) → Question → Type 0
IsOriginQuestion word number q =
    (route : Route) × IsPrefixText word route.prefix × (n : Asn) × IsAsnText number n × (route.as_id ≡ n.0)
    × (q ≡ Origin route)

abbrev pub IsQuestionOf : List ℕ → Option (List ℕ) → Question → Type 0
IsQuestionOf word None q = IsObjectQuestion word q
IsQuestionOf word (Some number) q = IsOriginQuestion word number q

-- what a word asks, with a number or without; nothing is asked without a word
abbrev pub IsQuestion : (word number : Option (List ℕ)) → Option Question → Type 0
IsQuestion None number None = number ≡ None
IsQuestion None number (Some q) = ⊥
IsQuestion (Some word) number None = ⊥
IsQuestion (Some word) number (Some q) = IsQuestionOf word number q
