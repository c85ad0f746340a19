-- What is signed of a certificate, written part by part.
use Rattle.std.proofs.Common.{◌≡◌, ◌<◌, ◌≤◌, ◌^◌, ℕ, true, false, List, [], ◌++◌, length, append_assoc, arith}
use Rattle.std.proofs.Common.{length-append}
use Rattle.rpki_der.specs.Prelude.{oid, null, sequence, tlv}
use Rattle.rpki_der.proofs.EncodeLaws.{tlv_at_most}
use Rattle.rpki.specs.Oids.{sha256_with_rsa_encryption}
use Rattle.rpki.specs.AlgorithmOctets.{identified_octets, algorithm_octets}
use Rattle.rpki.specs.PublicKey.{key_octets}
use Rattle.rpki_x509.proofs.WrittenLaws.{front-few, back-few}
use Rattle.rpki_issue.specs.declared.error.IssueError.{IssueError}
use Rattle.rpki_issue.specs.declared.error.IssueError.TheVariants.{Uri, Period, Doubled, Resources, TooLong}
use Rattle.rpki_issue.specs.declared.error.IssueError.TheVariants.{Rule, ContentType, Certificate, BadSignature}
use Rattle.rpki_issue.specs.declared.error.IssueError.TheVariants.{OutOfMemory}
use Rattle.rpki_issue.specs.Tbs.{Issued, extensions_octets, IsShortTbs}
use Rattle.rpki_issue.specs.Written.{IsKeyedRefusal, IsWriteRefusal, ArePartsSpelled, IsRead}
use Rattle.rpki_issue.proofs.TbsLaws.{subject-short, tbs-spelled}

pub joined : (v s a i p u k e o c1 c2 c3 c4 : List ℕ) → o ≡ [] → c1 ≡ o ++ (v ++ (s ++ a))
    → c2 ≡ c1 ++ (i ++ (p ++ u)) → c3 ≡ c2 ++ k → c4 ≡ c3 ++ e
    → c4 ≡ v ++ (s ++ (a ++ (i ++ (p ++ (u ++ (k ++ e))))))
joined v s a i p u k e o c1 c2 c3 c4 h0 h1 h2 h3 h4 = rw (h4, h3, h2, h1, h0) (simp append_assoc)

pub weaker : (A B : Type 0) (w : IssueError) → (B → A) → IsKeyedRefusal A w → IsKeyedRefusal B w
weaker A B Uri f h = h
weaker A B Period f h = h
weaker A B Doubled f h = h
weaker A B Resources f h = h
weaker A B TooLong f h = λ b. h (f b)
weaker A B (Rule r) f h = h
weaker A B ContentType f h = h
weaker A B Certificate f h = h
weaker A B BadSignature f h = h
weaker A B OutOfMemory f h = h

pub key-refused : (x : Issued) (e : List ℕ) (w : IssueError)
    → IsKeyedRefusal (length (key_octets x.key) < 2 ^ 32) w → IsWriteRefusal x e w
key-refused x e w h =
    weaker (length (key_octets x.key) < 2 ^ 32) (IsShortTbs x e) w
    (λ short. front-few (key_octets x.key) (extensions_octets e) (subject-short x e short)) h

pub list-refused : (x : Issued) (e : List ℕ) (w : IssueError)
    → IsKeyedRefusal (length (extensions_octets e) < 2 ^ 32) w → IsWriteRefusal x e w
list-refused x e w h =
    weaker (length (extensions_octets e) < 2 ^ 32) (IsShortTbs x e) w
    (λ short. back-few (key_octets x.key) (extensions_octets e) (subject-short x e short)) h

pub all-read : (x : Issued) (e : List ℕ) → IsShortTbs x e → ArePartsSpelled x → IsRead x e
all-read x e short parts = λ xs all.
    tbs-spelled x e short xs all parts.below parts.named.issuer parts.named.years parts.named.subject parts.key

pub algorithm-few : length (algorithm_octets sha256_with_rsa_encryption true) ≤ 40
algorithm-few =
    let one = tlv_at_most oid false sha256_with_rsa_encryption in
    let two = tlv_at_most null false [] in
    let all = tlv_at_most sequence true (identified_octets sha256_with_rsa_encryption true) in
    omega (arith, one, two, all, length-append (tlv oid false sha256_with_rsa_encryption) (tlv null false []))
