use Rattle.std.proofs.Common.{Bor, List, ℕ, ◌∙◌, ◌∷◌, ◌++◌, [], sym, refl, inl, inr, Some}
use Rattle.std.proofs.lemmas.List.Elements.{All-nil}
use Rattle.std.proofs.lemmas.Result.{err_from_is_err_and}
use Rattle.csv.specs.Reading.{Reached, default_config, strip_bom}
use Rattle.csv.specs.Records.{AllText, fields_of}
use Rattle.csv.specs.declared.parser.State.TheVariants as st
use Rattle.csv.proofs.ReadFacts.{rows-end, rows-more}
use Rattle.rpki_payloads.proofs.ListedLaws.{next-row, read-fault, row-fault}
use Rattle.rpki_payloads.proofs.payload_list.in_csv.Goals as goal

pub rows-init : goal.rows-init
unfolding Reached
rows-init c =
    let fr = c.from_reader-rdr.ensures in
    let start = c.into_iter-row-iterator.ensures.into_iter_gives ∙ refl in
    let rdr = c.into_records-row-items.ensures.rdr in
    let left = c.into_records-row-items.ensures.left in
    rw (start, rdr, c.new-all.ensures.items) (
      rw (c.flexible.ensures, c.has_headers.ensures) at fr.trim ∙ c.new.ensures.trim,
      inr (inr (rw (c.flexible.ensures, c.has_headers.ensures) at fr.has_headers, fr.headers)),
      left,
      rw (c.flexible.ensures, c.has_headers.ensures) at fr.config ∙ c.new.ensures.config,
      rw c.flexible.ensures at fr.flexible,
      strip_bom c.args.text.now,
      [],
      fr.source,
      (sym fr.state, refl),
      (All-nil AllText, tt),
    )

pub rows-preserved : goal.rows-preserved
rows-preserved c =
    let inv = c.rows.invariant in
    let n = rw (c.in-Some.is, c.in-Ok.is) at (c.next.ensures.steps inv.2 inv.0) in
    let s = n.0 inv.1 in
    let f = fields_of c.in-Ok.row in
    let m = rows-more (λ (s : Bor (List ℕ)). Some s.now) c.rows.row-iterator.rdr c.next.new.self.rdr f default_config
    st.StartRecord (strip_bom c.args.text.now) inv.5 inv.6 inv.3 inv.7 inv.8 s.0 in (
      s.0.3 ∙ inv.0,
      inl s.1,
      s.3,
      s.0.2 ∙ inv.3,
      n.3 ∙ inv.4,
      m.0,
      inv.6 ++ f ∷ [],
      m.1,
      m.2,
      next-row inv.6 f c.rows.all.items c.push_row.new.all.items inv.9 s.2 c.in_ok-push_row-in-Ok.ensures.ok,
    )

pub returns-clause-ok : goal.returns-clause-ok
returns-clause-ok c =
    let inv = c.rows.invariant in
    let s = rw c.in-None.is at ((c.next.ensures.steps inv.2 inv.0).0 inv.1) in (
      inv.6,
      (
        c.rows.row-iterator.rdr.state,
        inv.5,
        inv.8,
        rows-end (λ (s : Bor (List ℕ)). Some s.now)
            c.rows.row-iterator.rdr c.next.new.self.rdr [] default_config inv.5 inv.3 inv.7 s,
      ),
      inv.9,
    )

pub returns-in_err-push_row-in-Ok-clause-err : goal.returns-in_err-push_row-in-Ok-clause-err
returns-in_err-push_row-in-Ok-clause-err c =
    let inv = c.rows.invariant in
    let s = (rw (c.in-Some.is, c.in-Ok.is) at (c.next.ensures.steps inv.2 inv.0)).0 inv.1 in
    let f = fields_of c.in-Ok.row in
    let m = rows-more (λ (s : Bor (List ℕ)). Some s.now) c.rows.row-iterator.rdr c.next.new.self.rdr f default_config
    st.StartRecord (strip_bom c.args.text.now) inv.5 inv.6 inv.3 inv.7 inv.8 s.0 in
    let p = err_from_is_err_and c.from_residual.result c.from_residual.ensures.1 in
    rw (p.1, p.2)
    (row-fault c.args.text.now inv.6 c.rows.all.items inv.9 f c.next.new.self.rdr.state m.0 m.2
    c.in_err-push_row-in-Ok.field-0.0 c.in_err-push_row-in-Ok.ensures.err)

pub returns-in-Err-clause-err : goal.returns-in-Err-clause-err
returns-in-Err-clause-err c =
    let inv = c.rows.invariant in
    let s = (rw (c.in-Some.is, c.in-Err.is) at (c.next.ensures.steps inv.2 inv.0)).0 inv.1 in
    read-fault c.args.text.now inv.6 c.rows.all.items inv.9 (λ (s : Bor (List ℕ)). Some s.now)
    c.rows.row-iterator.rdr c.next.new.self.rdr inv.5 inv.3 inv.4 inv.7 inv.8 c.in-Err.e.kind s c.fault_of.result
    c.fault_of.ensures
