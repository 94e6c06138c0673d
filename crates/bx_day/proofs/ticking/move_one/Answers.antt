use Rattle.std.proofs.Common.{◌≡◌, ◌≤◌, ◌<◌, ◌+◌, not, length, sym, ap, ap₂, subst, refl, ◌∙◌, arith, slice_index_or, slice_set, if◌then◌else◌}
use Rattle.std.proofs.lemmas.Bool.{false≢true}
use Rattle.std.proofs.lemmas.List.{get_or_default}
use Rattle.bx_channels.specs.ChannelNumbers.{IsChannel}
use Rattle.bx_channels.specs.Marks.{is_marked}
use Rattle.bx_day.specs.Day.{entry_at, is_back, no_entry}
use Rattle.bx_day.specs.Ticks.{second_by, after_in}
use Rattle.bx_day.specs.Invariant.{EntryFits}
use Rattle.bx_day.specs.Outlasting.{IsTimedBy}
use Rattle.bx_day.specs.Reading.{Seated}
use Rattle.bx_day.specs.declared.entry.Entry.{Entry}
use Rattle.bx_day.proofs.Once.{each_at}
use Rattle.bx_day.proofs.Outlasting.{fits_timed}
use Rattle.bx_day.proofs.Passing.{moved_is, no_channel}
use Rattle.bx_day.proofs.TouchLemmas.{passed_more, passed_refused}
use Rattle.bx_day.proofs.ticking.move_one.Goals as goal

pub returns-in-Some-clause-moved : goal.returns-in-Some-clause-moved
returns-in-Some-clause-moved c d done t b h blocked undone p =
    let i = c.args.index in
    let es = c.args.entries.now in
    let e = c.index-entries-index.result in
    let m = c.second-moved.result in
    let inside : i < length d.entries = omega (arith, c.requires.inside, p.size) in
    let at_index : (x : Entry) → slice_index_or es i x ≡ entry_at d.entries i = λ x. get_or_default es i x no_entry c.requires.inside ∙ p.rows i inside ∙ ap (λ b. if b then after_in c.args.link d (entry_at d.entries i) else entry_at d.entries i) undone in
    let same : e ≡ entry_at d.entries i = c.index-entries-index.is ∙ at_index e in
    let number : c.in-Some.channel ≡ e.channel = c.in-Some.ensures.value in
    let channel : IsChannel c.in-Some.channel = subst IsChannel (sym number) (c.in-Some.ensures.exactly.0 refl) in
    let high : c.in-Some.channel ≤ 31 = channel.1 in
    let timed : IsTimedBy (d.moment + 180) e.standing = subst (λ (x : Entry). IsTimedBy (d.moment + 180) x.standing) (sym same) (fits_timed d.moment (entry_at d.entries i) (entry_at d.entries i).standing (each_at (EntryFits d.moment) d.entries i inside h.day.each)) in
    let moved : m ≡ second_by c.args.link e (d.moment + 1) (is_back d) (not (is_marked c.args.blocked c.in-Some.channel)) e.standing = c.second-moved.ensures (d.moment + 180) timed (omega (arith, h.moment)) ∙ ap (λ x. second_by c.args.link e (c.args.moment + 1) c.args.back (not x) e.standing) c.has.ensures ∙ ap₂ (λ n y. second_by c.args.link e (n + 1) y (not (is_marked c.args.blocked c.in-Some.channel)) e.standing) (sym t) (sym b) in
    passed_more c.args.link d done i c.in-Some.channel m es (slice_set es i (record (slice_index_or es i c.index-entries-index-in-Some.result) { standing = m.standing })) c.args.maintenance.now c.note.new.maintenance c.args.said.now c.note.new.said h inside
    (moved_is c.args.link d e (entry_at d.entries i) m c.args.blocked c.in-Some.channel same number blocked moved)
    (number ∙ ap (λ (x : Entry). x.channel) same)
    high
    (ap (λ (x : Entry). slice_set es i (record x { standing = m.standing })) (at_index c.index-entries-index-in-Some.result))
    c.note.ensures.maintenance
    c.note.ensures.said
    p

pub returns-in_default-clause-moved : goal.returns-in_default-clause-moved
returns-in_default-clause-moved c d done t b h blocked undone p =
    let i = c.args.index in
    let es = c.args.entries.now in
    let inside : i < length d.entries = omega (arith, c.requires.inside, p.size) in
    let same : c.index-entries-index.result ≡ entry_at d.entries i = c.index-entries-index.is ∙ get_or_default es i c.index-entries-index.result no_entry c.requires.inside ∙ p.rows i inside ∙ ap (λ b. if b then after_in c.args.link d (entry_at d.entries i) else entry_at d.entries i) undone in
    passed_refused c.args.link d done i es c.args.maintenance.now c.args.said.now inside undone
    (no_channel (entry_at d.entries i) (each_at Seated d.entries i inside h.seated) (λ channel. false≢true (c.in_default.ensures.exactly.1 (subst (λ (x : Entry). IsChannel x.channel) (sym same) channel))))
    p
