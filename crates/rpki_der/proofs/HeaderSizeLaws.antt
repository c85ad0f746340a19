-- How many octets a header has, by its number and its length.
use Rattle.std.proofs.Common.{◌≡◌, ℕ, suc, ◌+◌, ◌/◌, ◌%◌, ◌^◌, ◌<◌, ◌≤◌, Bool, [], ◌∷◌, length, arith, length-append}
use Rattle.rpki_der.specs.TagName.{TagName}
use Rattle.rpki_der.specs.Header.{digits, identifier_octets, length_octets}
use Rattle.rpki_der.proofs.DigitLaws.{digits-zero, digits-last}
use Rattle.rpki_der.proofs.HeaderWritingLaws.{identifier-low, identifier-high, length-short, length-long}

count-none : (b m k n : ℕ) → n ≡ 0 → length (digits b m k n) ≡ 0
count-none b m k n z = rw (z, digits-zero b m k) (omega arith)

count-more : (b m k n d : ℕ) → 0 < n → length (digits b m k (n / b)) ≡ d → length (digits b m (suc k) n) ≡ d + 1
count-more b m k n d some h =
    rw (digits-last b m k n (λ z. omega (arith, z, some)), length-append) (omega (arith, h))

-- a length of contents, by how many octets it takes
pub length-1 : (n : ℕ) → n < 128 → length (length_octets n) ≡ 1
length-1 n lt = rw (length-short n lt) (omega arith)

long : (n k : ℕ) → 128 ≤ n → length (digits 256 0 4 n) ≡ k → length (length_octets n) ≡ k + 1
long n k ge h = rw (length-long n ge) (omega (arith, h))

pub length-2 : (n : ℕ) → 128 ≤ n → n < 256 → length (length_octets n) ≡ 2
length-2 n ge lt =
    long n 1 ge (count-more 256 0 3 n 0 (omega arith) (count-none 256 0 3 (n / 256) (omega arith)))

pub length-3 : (n : ℕ) → 256 ≤ n → n < 2 ^ 16 → length (length_octets n) ≡ 3
length-3 n ge lt =
    long n 2 (omega arith) (count-more 256 0 3 n 1 (omega arith) (count-more 256 0 2 (n / 256) 0 (omega arith)
    (count-none 256 0 2 (n / 256 / 256) (omega arith))))

pub length-4 : (n : ℕ) → 2 ^ 16 ≤ n → n < 2 ^ 24 → length (length_octets n) ≡ 4
length-4 n ge lt =
    long n 3 (omega arith) (count-more 256 0 3 n 2 (omega arith) (count-more 256 0 2 (n / 256) 1 (omega arith)
    (count-more 256 0 1 (n / 256 / 256) 0 (omega arith) (count-none 256 0 1 (n / 256 / 256 / 256) (omega arith)))))

pub length-5 : (n : ℕ) → 2 ^ 24 ≤ n → n < 2 ^ 32 → length (length_octets n) ≡ 5
length-5 n ge lt =
    long n 4 (omega arith) (count-more 256 0 3 n 3 (omega arith) (count-more 256 0 2 (n / 256) 2 (omega arith)
    (count-more 256 0 1 (n / 256 / 256) 1 (omega arith) (count-more 256 0 0 (n / 256 / 256 / 256) 0 (omega arith)
    (count-none 256 0 0 (n / 256 / 256 / 256 / 256) (omega arith))))))

-- a tag, by how many octets it takes
pub tag-1 : (t : TagName) (f : Bool) → t.number < 31 → length (identifier_octets t f) ≡ 1
tag-1 t f lt = rw (identifier-low t f lt) (omega arith)

high : (t : TagName) (f : Bool) (k : ℕ) → 31 ≤ t.number → length (digits 128 128 3 (t.number / 128)) ≡ k
    → length (identifier_octets t f) ≡ k + 2
high t f k ge h = rw (identifier-high t f ge)
    (omega (arith, h, length-append (digits 128 128 3 (t.number / 128)) ((t.number % 128) ∷ [])))

pub tag-2 : (t : TagName) (f : Bool) → 31 ≤ t.number → t.number < 128 → length (identifier_octets t f) ≡ 2
tag-2 t f ge lt = high t f 0 ge (count-none 128 128 3 (t.number / 128) (omega arith))

pub tag-3 : (t : TagName) (f : Bool) → 128 ≤ t.number → t.number < 2 ^ 14 → length (identifier_octets t f) ≡ 3
tag-3 t f ge lt =
    high t f 1 (omega arith) (count-more 128 128 2 (t.number / 128) 0 (omega arith)
    (count-none 128 128 2 (t.number / 128 / 128) (omega arith)))

pub tag-4 : (t : TagName) (f : Bool) → 2 ^ 14 ≤ t.number → t.number < 2 ^ 21 → length (identifier_octets t f) ≡ 4
tag-4 t f ge lt =
    high t f 2 (omega arith) (count-more 128 128 2 (t.number / 128) 1 (omega arith)
    (count-more 128 128 1 (t.number / 128 / 128) 0 (omega arith)
    (count-none 128 128 1 (t.number / 128 / 128 / 128) (omega arith))))

pub tag-5 : (t : TagName) (f : Bool) → 2 ^ 21 ≤ t.number → t.number < 2 ^ 28 → length (identifier_octets t f) ≡ 5
tag-5 t f ge lt =
    high t f 3 (omega arith) (count-more 128 128 2 (t.number / 128) 2 (omega arith)
    (count-more 128 128 1 (t.number / 128 / 128) 1 (omega arith)
    (count-more 128 128 0 (t.number / 128 / 128 / 128) 0 (omega arith)
    (count-none 128 128 0 (t.number / 128 / 128 / 128 / 128) (omega arith)))))
