-- At the opening nothing was sent and no call is live, so all that is kept is true.
use Rattle.std.proofs.Common.{◌≡◌, ℕ, zero, suc, ◌+◌, ◌≤◌, ◌<◌, not, Bool, true, false, List, [], ◌∷◌, length, Option, Some, None, refl, sym, subst, ◌∙◌, arith, slice_index_or}
use Rattle.std.proofs.lemmas.Bool.{false≢true, true≢false}
use Rattle.bx_channels.specs.Numbers.{IsNumber}
use Rattle.bx_channels.specs.ChannelNumbers.{IsChannel}
use Rattle.bx_base.specs.Channels.{IsChannelSet}
use Rattle.bx_base.specs.Bookings.{Row, row_at, AreBookings, Carries}
use Rattle.bx_base.specs.Plans.{is_accepted, channel_at}
use Rattle.bx_day.specs.Day.{entries_from, entry_at}
use Rattle.bx_day.specs.Invariant.{is_refused}
use Rattle.bx_day.proofs.Law.{IsFrame, opening_fits, opening_framed, opening_placed}
use Rattle.bx_far.specs.declared.row.ScriptRow.{ScriptRow}
use Rattle.bx_two_ends.specs.World.{world_opening}
use Rattle.bx_two_ends.specs.Scripts.{AreScriptRows}
use Rattle.bx_two_ends.proofs.Outward.{Seats, OutwardStanding, KeepsOutward}

seated : (k : ℕ) (rows : List Row) (assigned : List (Option ℕ)) (i n : ℕ) → k + i ≡ n → is_refused (entry_at (entries_from k rows assigned) i).standing ≡ false → (i < length rows) × ((entry_at (entries_from k rows assigned) i).reference ≡ n)
seated k (b ∷ bs) [] (suc i) n q h = let r = seated (k + 1) bs [] i n (omega (arith, q)) h in (omega (arith, r.0), r.1)
seated k (b ∷ bs) (Some c ∷ as') zero n q h = (omega arith, same k n q)
  where
    same : (x y : ℕ) → x + 0 ≡ y → x ≡ y
    same x y e = omega (arith, e)
seated k (b ∷ bs) (a ∷ as') (suc i) n q h = let r = seated (k + 1) bs as' i n (omega (arith, q)) h in (omega (arith, r.0), r.1)
seated k rows assigned i n q h = absurd (true≢false h)

not_back : (b : Bool) → false ≡ not b → b ≡ true
not_back true h = refl
not_back false h = absurd (false≢true h)

pub opening_seats : (rows : List Row) (channels : List Bool) (assigned : List (Option ℕ)) → AreBookings rows → IsChannelSet channels → Carries rows channels (is_accepted assigned) (channel_at assigned) → Seats assigned (entries_from 1 rows assigned)
opening_seats rows channels assigned b set h i q =
    let p = seated 1 rows assigned i (suc i) (omega arith) q in
    let f : IsFrame (row_at rows i) (slice_index_or assigned i None) (entry_at (entries_from 1 rows assigned) i) = opening_framed 1 rows assigned i p.0 in
    let few = b.few in
    record {
      reference = p.1;
      few = less i (length rows) p.0 b.few;
      channel = f.channel;
      in_service = subst IsChannel (sym f.channel) (set.only (channel_at assigned i) (h.in_service i p.0 (not_back (is_accepted assigned i) (sym q ∙ f.accepted))));
      number = subst (λ (r : Row). IsNumber r.number) (sym f.booking) (b.each i p.0).number;
    }
  where
    less : (x y : ℕ) → x < y → y ≤ 16000 → x ≤ 15999
    less x y l m = omega (arith, l, m)

opening_standings : (k : ℕ) (rows : List Row) (assigned : List (Option ℕ)) (i r : ℕ) → OutwardStanding r [] [] (entry_at (entries_from k rows assigned) i).standing
opening_standings k [] assigned i r = tt
opening_standings k (b ∷ bs) [] zero r = tt
opening_standings k (b ∷ bs) [] (suc i) r = opening_standings (k + 1) bs [] i r
opening_standings k (b ∷ bs) (None ∷ as') zero r = tt
opening_standings k (b ∷ bs) (Some c ∷ as') zero r = tt
opening_standings k (b ∷ bs) (a ∷ as') (suc i) r = opening_standings (k + 1) bs as' i r

pub opening_keeps : (rows : List Row) (channels : List Bool) (assigned : List (Option ℕ)) (script : List ScriptRow) → AreBookings rows → IsChannelSet channels → Carries rows channels (is_accepted assigned) (channel_at assigned) → AreScriptRows script → KeepsOutward rows assigned (world_opening rows assigned script)
opening_keeps rows channels assigned script b set h s = record {
  run = record { day = opening_fits rows channels assigned b h; framed = (opening_framed 1 rows assigned, opening_placed rows assigned) };
  seats = opening_seats rows channels assigned b set h;
  sents = tt;
  standings = λ i. opening_standings 1 rows assigned i (suc i);
  replies = tt;
  calls = tt;
  apart = tt;
  size = refl;
  places = tt;
  script = s.each;
}
