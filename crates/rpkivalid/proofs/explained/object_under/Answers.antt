use Rattle.std.proofs.Common.{ℕ, List, ap, subst, ◌∙◌}
use Rattle.rpki_text.specs.RsyncText.{uri_of}
use Rattle.rpkivalid.specs.Found.{basis_with}
use Rattle.rpkivalid.specs.LocatorsView.{named_of}
use Rattle.rpkivalid.specs.Paths.{object_path}
use Rattle.rpkivalid.specs.Walked.{IsWalkIn, without}
use Rattle.rpkivalid.proofs.explained.object_under.Goals as goal

pub returns : goal.returns
returns g c =
    let by = g.P.Provider in
    let basis = basis_with by c.args.provider.now c.args.strictness c.args.at c.args.depth in
    record {
      found = c.in_ok-found.found;
      found_is = c.in_ok-found.ensures;
      left = c.in_ok-left.left;
      left_is =
          subst (λ (path : List ℕ). IsWalkIn (without path (g.S.Sources.holds c.args.sources.now)) c.args.folder.now
          basis (named_of c.args.named.now) c.in_ok-left.left)
          (c.as_str.ensures.value ∙ c.in_ok-path.ensures
          ∙ ap (λ (t : List ℕ). object_path c.args.folder.now (uri_of t)) c.view.ensures) c.in_ok-left.ensures;
      text_is = rw c.as_str-2.ensures.value at c.in_ok-text.ensures;
      anchored_is = c.is_found.ensures;
    }
