-- All records that were replayed are counted, and no more agree than those.
use Rattle.std.proofs.Common.{◌≤◌, ◌≡◌}
use Rattle.test_replay.proofs.replay_all.Given as goal

abbrev pub invariant-loop : goal.invariant-loop
invariant-loop g l = (l.agreed ≤ l.all) × (l.all ≡ l.counter)
