use Rattle.std.proofs.Common.{◌≡◌, ℕ, zero, suc, ◌+◌, ◌<◌, ◌&&◌, Bool, true, false, List, [], ◌∷◌, length, take, get_or}
use Rattle.std.proofs.Common.{bytes_eq, nat_eq, refl, sym, ap, ◌∙◌, arith}
use Rattle.std.specs.Char.{to_ascii_lowercase}
use Rattle.std.proofs.lemmas.Grind.{common_steps}
use Rattle.rpki_text.specs.UriText.{lowercase}
use Rattle.rpki_text.proofs.uri.characters.are_alike.Goals as goal

and-associates : (a b c : Bool) → (a && (b && c)) ≡ ((a && b) && c)
and-associates true b c = refl
and-associates false b c = refl

-- one octet more of two texts that are as long: it decides, where what is before it is alike
one-more : (s t : List ℕ) (i : ℕ) → i < length s → length s ≡ length t
    → bytes_eq (lowercase (take (i + 1) s)) (lowercase (take (i + 1) t))
    ≡ (bytes_eq (lowercase (take i s)) (lowercase (take i t)) && nat_eq (to_ascii_lowercase (get_or s i 0))
    (to_ascii_lowercase (get_or t i 0)))
one-more [] t i h e = grind (arith, h)
one-more (a ∷ s) [] i h e = grind (arith, e)
one-more (a ∷ s) (b ∷ t) zero h e = grind (arith, common_steps)
one-more (a ∷ s) (b ∷ t) (suc i) h e =
    let next = one-more s t i (omega (arith, h)) (omega (arith, e)) in
    let more : suc i + 1 ≡ suc (i + 1) = omega arith in
    rw more (ap (λ x. nat_eq (to_ascii_lowercase a) (to_ascii_lowercase b) && x) next ∙ and-associates
    (nat_eq (to_ascii_lowercase a) (to_ascii_lowercase b)) _ _)

pub loop-i-preserved : goal.loop-i-preserved
loop-i-preserved c =
    rw (c.to_ascii_lowercase.ensures.value, c.to_ascii_lowercase-in-loop-i.ensures.value, c.loop-i.invariant)
    (sym (one-more c.args.s.now c.args.other.now c.loop-i.i c.loop-i-test.true c.requires))
