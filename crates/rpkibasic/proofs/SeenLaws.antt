-- What is seen of a run, by its words.
use Rattle.std.proofs.Common.{◌≡◌, ℕ, true, List, [], ◌∷◌, get_or, length, map, refl, sym, ap, ◌∙◌, subst, arith}
use Rattle.std.proofs.Common.{if◌then◌else◌}
use Rattle.std.specs.Prelude.{Option, Some, None, IfSome, nat_eq, ◌==◌}
use Rattle.std.proofs.lemmas.Bool.{eqb-true}
use Rattle.rpkibasic.specs.declared.command.Command.{Command}
use Rattle.rpkibasic.specs.declared.command.Command.TheVariants.{Again, Data, Key, Uri, Ext, Name}
use Rattle.rpkibasic.specs.Command.{word_of}
use Rattle.rpkibasic.specs.Run.{Answer, Replies}

-- the command whose word has this first octet
command-of : ℕ → Command
command-of n =
    if nat_eq n 97 then Again else if nat_eq n 100 then Data else if nat_eq n 107 then Key else
    if nat_eq n 117 then Uri else if nat_eq n 101 then Ext else Name

first-octet : (command : Command) → command-of (get_or (word_of command) 0 0) ≡ command
unfolding command-of
first-octet Again = refl
first-octet Data = refl
first-octet Key = refl
first-octet Uri = refl
first-octet Ext = refl
first-octet Name = refl

-- words are those of one command
pub one-command : (words : List (List ℕ)) (c d : Command) → words ≡ word_of c ∷ [] → words ≡ word_of d ∷ [] → c ≡ d
one-command words c d e f =
    let word : word_of c ≡ word_of d = ap (λ (w : List (List ℕ)). get_or w 0 []) (sym e ∙ f) in
    sym (first-octet c) ∙ ap (λ (w : List ℕ). command-of (get_or w 0 0)) word ∙ first-octet d

-- an answer is given, and is seen
pub answer-seen : (words : List (List ℕ)) (asked command : Command) (input : Option (List ℕ)) (a : Answer)
    (IsSeen : Answer → Type 0)
    → words ≡ word_of asked ∷ [] → IfSome input (λ octets. Replies asked octets a) → IsSeen a
    → words ≡ word_of command ∷ []
    → IfSome input (λ octets. (b : Answer) × Replies command octets b × IsSeen b)
answer-seen words asked command None a IsSeen is h seen named = tt
answer-seen words asked command (Some octets) a IsSeen is h seen named =
    (a, subst (λ (k : Command). Replies k octets a) (one-command words asked command is named) h, seen)

-- there are no words
pub no-words : {A : Type 0} (text : A → List ℕ) (words : List A) → (length words == 0) ≡ true → map text words ≡ []
no-words text [] e = refl
no-words text (word ∷ words) e = absurd (omega (arith, eqb-true (length (word ∷ words)) 0 e))
