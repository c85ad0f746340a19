-- Printable characters are ASCII.
use Rattle.std.proofs.Common.{◌≡◌, ℕ, zero, suc, ◌<◌, Bool, true, false, ◌&&◌, List, [], ◌∷◌, arith, refl}
use Rattle.std.proofs.lemmas.Bool.Decides.{nat_tests}
use Rattle.std.specs.Str.{IsAscii}
use Rattle.rpki_der.specs.Text.{is_printable, are_printable}

pub printable-below : (x : ℕ) → is_printable x ≡ true → x < 128
printable-below x h = grind (arith, nat_tests)

both : (a b : Bool) → (a && b) ≡ true → (a ≡ true) × (b ≡ true)
both true b h = (refl, h)
both false b h = absurd (cc)

pub printable-ascii : (xs : List ℕ) → are_printable xs ≡ true → IsAscii xs
printable-ascii [] h i = omega arith
printable-ascii (x ∷ xs) h zero = printable-below x (both (is_printable x) (are_printable xs) h).0
printable-ascii (x ∷ xs) h (suc i) = printable-ascii xs (both (is_printable x) (are_printable xs) h).1 i
