use Rattle.std.specs.List.{Contains}
use Rattle.rpki_validation.specs.Basis.{basis_of, holder_of}
use Rattle.rpki_validation.specs.Finding.{IsSole}
use Rattle.rpki_validation.specs.Reached.{IsFirstAnchor}
use Rattle.rpki_validation.specs.Sisters.{IsSister}
use Rattle.rpki_validation.specs.Snapshot.{Published, Where}
use Rattle.rpki_validation.specs.Waiting.{Entry}
use Rattle.rpki_locator.specs.declared.anchor_uri.AnchorUri.{AnchorUri}
use Rattle.std.proofs.Common.{List}
use Rattle.rpki_validation.proofs.WalkLaws.{IsWalked}
use Rattle.rpki_validation.proofs.walk.walk.Given as goal

-- authorities were looked at, and these wait
abbrev pub invariant-turns : goal.invariant-turns
invariant-turns g l =
    let p = g.P.Provider in
    let anchor = l.fn.anchor in
    let basis = basis_of p anchor l.at in
    record {
      sisters : (e : Entry g.row.P.Denot) → Contains l.waiting e
          → IsSister anchor.terms anchor.provider l.at e.1.depth e.1;
      walked : Where (g.S.Snapshot.holds l.snapshot) (λ (published : Published). (uris : List AnchorUri)
          → (sole : IsSole (IsFirstAnchor published basis uris) (holder_of anchor))
          → IsWalked published basis uris anchor sole l.waiting l.looked l.outcome);
    }
