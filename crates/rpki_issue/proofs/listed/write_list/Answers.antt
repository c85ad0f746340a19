use Rattle.std.proofs.Common.{ℕ, List, ◌++◌, ap, ◌∙◌}
use Rattle.rpki_issue.specs.Extensions.{own_parts, pointing_parts, last_parts, extensions_of, extensions_listed}
use Rattle.rpki_issue.proofs.ListedLaws.{more-then}
use Rattle.rpki_issue.proofs.listed.write_list.Goals as goal

pub returns-clause-ok : goal.returns-clause-ok
returns-clause-ok c =
    let x = c.args.said.now in
    record {
      list = more-then _ _ _ (own_parts x ++ pointing_parts x) (last_parts x)
          (more-then _ _ _ (own_parts x) (pointing_parts x) c.in_ok-push_own.ensures.more c.in_ok-push_pointing.ensures)
          c.in_ok-push_last.ensures.more
          ∙ ap (λ (w : List ℕ). w ++ extensions_listed (extensions_of x)) c.new-listed.ensures.items;
      keys = c.in_ok-push_own.ensures.keys;
      hold = c.in_ok-push_last.ensures.hold;
    }
