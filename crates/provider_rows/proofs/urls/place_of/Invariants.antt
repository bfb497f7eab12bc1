use Rattle.std.proofs.Common.{◌≡◌, ◌-◌, ◌<◌, drop, length}
use Rattle.provider_rows.specs.Urls.{url_place}
use Rattle.provider_rows.proofs.urls.place_of.Given as goal

abbrev pub invariant-loop-i : goal.invariant-loop-i
invariant-loop-i l = record {
  place : l.place ≡ url_place (drop (length l.bytes - l.i) l.bytes);
  small : l.place < 1000000007;
}
