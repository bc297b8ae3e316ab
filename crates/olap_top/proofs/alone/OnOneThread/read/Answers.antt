use Rattle.std.proofs.Common.{[], refl, sym, subst}
use Rattle.row_ledger.specs.{Right.IsRight, Site.site_of}
use Rattle.olap_top.proofs.OneThread.{held-right, read-alone}
use Rattle.olap_top.proofs.alone.OnOneThread.read.Goals as goal

pub read-requires : goal.read-requires
read-requires g c = record {
  asked = c.requires.asked c.events.result.now (record { newer = []; grown = c.events.ensures })
      (λ wanted s ps behind. subst (IsRight (site_of s.with s.hierarchy)) (sym c.events.ensures) (held-right s.hierarchy s.with c.args.self.now.state behind.runs.core));
}

pub returns-clause-kept : goal.returns-clause-kept
returns-clause-kept g c = λ wanted s ps behind. read-alone wanted s ps c.args.self.now behind
