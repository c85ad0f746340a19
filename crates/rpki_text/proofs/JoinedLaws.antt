-- A text with a path joined to it, by whether a slash is between them.
use Rattle.std.proofs.Common.{◌≡◌, ℕ, ◌<◌, false, not, List, [], ◌++◌, length, sym}
use Rattle.std.proofs.Common.{ap, ◌∙◌}
use Rattle.std.proofs.lemmas.List.{append-nil}
use Rattle.rpki_text.specs.Segments.{is_dir}
use Rattle.rpki_text.specs.RsyncText.{IsCut, path_of, joined, joined_by}
use Rattle.rpki_text.proofs.JoinLaws.{with_slash-flag, joined-empty, joined-filled}

pub marked-filled : (t : List ℕ) (m n : ℕ) → IsCut t m n → (p : List ℕ) → 0 < length p
    → joined_by (not (is_dir (path_of t))) t p ≡ joined t p
marked-filled t m n c p some = ap (λ s. s ++ p) (with_slash-flag t m n c) ∙ sym (joined-filled t p some)

pub marked-empty : (t p : List ℕ) → p ≡ [] → joined_by false t p ≡ joined t p
marked-empty t p e = ap (λ q. t ++ q) e ∙ append-nil t ∙ sym (joined-empty t p e)
