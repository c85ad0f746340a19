use Rattle.std.proofs.Common.{sym, refl}
use Rattle.rpki_text.proofs.PlaceLaws.{end-at}
use Rattle.rpki_text.proofs.uri.rsync_cut.RsyncCut.relative_range.Goals as goal

pub returns-clause-some : goal.returns-clause-some
returns-clause-some c a b = record {
  path = c.in_ok-path.path.now;
  leads = sym (c.in_ok-path.ensures.path a b);
  stands = end-at c.args.self.now.text.now c.in_ok-path.path.now c.in_ok-path.ensures.tail.0
      c.in_ok-path.ensures.tail.1;
  last = refl;
}

pub returns-clause-within : goal.returns-clause-within
returns-clause-within c =
    let at = end-at c.args.self.now.text.now c.in_ok-path.path.now c.in_ok-path.ensures.tail.0
    c.in_ok-path.ensures.tail.1 in (at.ordered, at.within)
