use Rattle.std.proofs.Common.{◌++◌, List, [], ◌∷◌, ℕ, ap, ◌∙◌}
use Rattle.rpki.specs.PublicKey.{KeyParts}
use Rattle.rpki.specs.declared.crypto.keys.PublicKeyFormat.{PublicKeyFormat}
use Rattle.rpki_validation.specs.Met.{format_number}
use Rattle.rpki_validation.proofs.met.key_marks.Goals as goal

pub returns : goal.returns
returns c =
    let tbs = c.args.tbs.now in
    let key = c.subject_public_key_info-key.ensures in
    let format = c.format_number.ensures
    ∙ ap (λ (f : PublicKeyFormat). format_number f) (c.algorithm.ensures ∙ ap (λ (k : KeyParts). k.format) key) in
    let unused = c.from.ensures ∙ c.unused.ensures.value ∙ ap (λ (k : KeyParts). k.bits.unused) key in
    record {
      name = c.in_ok-name.ensures ∙ c.as_slice.ensures ∙ c.subject.ensures;
      bits = c.in_ok-bits.ensures ∙ ap (λ (k : KeyParts). k.bits.octets) key;
      numbers = c.in_ok-push-2.ensures.items
          ∙ ap (λ (l : List ℕ). l ++ (c.from.result ∷ [])) (c.in_ok-push.ensures.items
          ∙ ap (λ (l : List ℕ). l ++ (c.format_number.result ∷ [])) c.new-numbers.ensures.items)
          ∙ ap (λ (n : ℕ). n ∷ c.from.result ∷ []) format ∙ ap (λ (n : ℕ). format_number tbs.key.format ∷ n ∷ [])
          unused;
    }
