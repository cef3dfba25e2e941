use Rattle.std.proofs.Common.{◌≡◌, IsTrue}
use Rattle.app_admin.proofs.checking.check.Given as goal

-- nothing was written yet, and the home is as it was
abbrev pub invariant-loop : goal.invariant-loop
invariant-loop g l = record {
  unwritten : g.W.Write.contents l.output ≡ g.W.Write.contents l.initial.output;
  disk : IsTrue (g.H.Home.honest l.initial.home) → g.H.Home.disk l.home ≡ g.H.Home.disk l.initial.home;
  honest : g.H.Home.honest l.home ≡ g.H.Home.honest l.initial.home;
  summed : g.H.Home.summed l.home ≡ g.H.Home.summed l.initial.home;
}
