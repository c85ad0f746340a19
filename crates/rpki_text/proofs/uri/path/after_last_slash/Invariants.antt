use Rattle.std.proofs.Common.{◌≡◌, ◌≤◌, ◌+◌, ◌-◌, not, [], ◌∷◌, length, take, drop}
use Rattle.std.specs.List.{suffix_len}
use Rattle.rpki_text.specs.Segments.{is_slash, pieces}
use Rattle.rpki_text.proofs.uri.path.after_last_slash.Given as goal

abbrev pub invariant-loop-end : goal.invariant-loop-end
invariant-loop-end l = record {
  within : l.end ≤ length l.text;
  tail : length l.text - l.end + suffix_len (λ b. not (is_slash b)) (take l.end l.text) ≡ suffix_len
      (λ b. not (is_slash b)) l.text;
  back : pieces (drop l.end l.text) ≡ drop l.end l.text ∷ [];
}

abbrev pub decreases-loop-end : goal.decreases-loop-end
decreases-loop-end l = l.end
