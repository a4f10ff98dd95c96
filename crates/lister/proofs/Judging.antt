-- From a file's reading and a run to what is listed. Assumes nothing.
use Rattle.std.specs.Prelude.{Ok, Err}
use mathlib.Core.Path.{◌≡◌, refl, sym, ◌∙◌, ap}
use mathlib.Core.List.{List}
use mathlib.Core.Bool.{Bool, true, false}
use Prim.Native.Nat.{ℕ, ◌*◌, ◌≤◌}
use native.Mathlib.Omega.{arith}
use lib.Dec.{leb}
use lib.ListN.{length, take}
use borrow.Author.Tests.{leb-false}
use Rattle.lent.specs.Lent.{front, put_at}
use Rattle.lent.proofs.Laws.{put_start, front_stands}
use Rattle.run.specs.Ran.{Ran}
use Rattle.model.specs.Table.{Valid}
use Rattle.table.specs.Bytes.{table_of}
use Rattle.table.specs.Tests.{must}
use Rattle.table.specs.declared.answer.Refusal as table_refusal
use Rattle.table.specs.declared.answer.Refusal.TheVariants.{Buffer}
use Rattle.session.specs.Open.{opening}
use Rattle.run.specs.Run.{run_test, refused as run_refused, ran as run_Ran}
use Rattle.run.specs.Laws.{GoodTrace}
use Rattle.session.proofs.Laws.{opening_passes}
use Rattle.run.proofs.Laws.{run_passes, room_decides}
use Rattle.standard.specs.Box.{standard_rows}
use Rattle.standard.proofs.Laws.{is_valid}
use Rattle.house.specs.File.{rows_of, events_of, contents_of}
use Rattle.house.specs.Reading.{verdict, answer, after, Answers}
use Rattle.house.specs.Laws.{GoodRows, GoodFile}
use Rattle.house.specs.declared.answer.Contents.{Contents}
use Rattle.house.specs.Verdict.{Reading}
use Rattle.house.specs.declared.answer.Refusal.{Refusal}
use Rattle.house.specs.declared.answer.Refusal.TheVariants.{Content}
use Rattle.house.specs.declared.answer.Source.{Source}
use Rattle.house.specs.declared.answer.Source.TheVariants as source
use Rattle.house.specs.Verdict.{Verdict}
use Rattle.house.proofs.Laws.{what_is_held, what_is_good, counts_held}
use Rattle.lister.specs.Judged.{Judged}
use Rattle.lister.specs.Judging.{row_room, rows_meant, judged, RunsAs, Follows, Judges, refused, cramped, listed}

-- the run of a trace
pub followed : (c : Contents) (rows before after : List ℕ) {trace trace' : List ℕ} (r : Ran) → trace ≡ trace'
    → RunsAs c rows trace before r after → Follows c rows trace' before (judged c.events r) after
followed c rows before after r e h = record { ran = r; runs = rw e at h; answer = refl }

-- the same of rows in other words
pub followed_by : {c : Contents} {rows rows' trace before after : List ℕ} {j : Judged} → rows ≡ rows' → Follows c rows trace before j after → Follows c rows' trace before j after
followed_by e h = rw e at h

-- the standard box's rows in a room of their length
pub settled : (d p x : List ℕ) → length d ≡ row_room → p ≡ standard_rows → x ≡ put_at d 0 p → take row_room x ≡ standard_rows
settled d p x l e h =
    let long : length standard_rows ≡ row_room = omega (arith, is_valid.rows) in
    let put : x ≡ front d standard_rows = put_start d p standard_rows x (omega (arith, long, l)) e h in
    ap (λ (k : ℕ). take k x) (sym long) ∙ ap (take (length standard_rows)) put ∙ (front_stands d standard_rows).start

-- what a verdict was, from the answer
was_refused : (v : Verdict) (c : Contents) (r : Refusal) → Err r ≡ answer v c → v ≡ Err r
was_refused (Ok _) c r e = absurd (let z : ◌≡◌ {A = ℕ} 0 1 = cc in omega arith)
was_refused (Err x) c r e = let z : x ≡ r = cc in rw z

was_passed : (v : Verdict) (c d : Contents) → Ok d ≡ answer v c → v ≡ Ok tt
was_passed (Ok _) c d e = refl
was_passed (Err x) c d e = absurd (let z : ◌≡◌ {A = ℕ} 0 1 = cc in omega arith)

-- a refused file
pub unread : {s d e o d' e' : List ℕ} {a : Reading} {r : Refusal} → length d ≡ row_room → Answers s d e a d' e' → a ≡ Err r → Judges s e o (Err r) e' o
unread {s} {d} {e} {o} {d'} {e'} {a} {r} long h x =
    let v : verdict s (length d) (length e) ≡ Err r = was_refused (verdict s (length d) (length e)) (contents_of s) r (sym x ∙ h.reading) in
    let same : e ≡ e' = sym (h.events ∙ ap (λ (y : Reading). after y e (events_of s)) x) in
    let j : Judges s e o (Err r) e o = refused (rw long at v) in
    rw (sym same) j

module _ (s : List ℕ) (c : Contents) (g : GoodFile s c) where
  -- the table that the file means is valid
  table_good : (source : Source) (rows : List ℕ) → GoodRows source c.states c.inputs c.outputs rows
      → Valid (table_of (rows_meant source rows) c.states c.inputs c.outputs)
  table_good source.Rows rows h = h
  table_good source.Standard rows (a, b, d, e) = rw (a, b, d) is_valid

  pub opens : opening (rows_meant c.source (rows_of s)) c.states c.inputs c.outputs c.waiting c.losses ≡ Ok tt
  opens = (opening_passes _ c.states c.inputs c.outputs c.waiting c.losses).1 (table_good c.source (rows_of s) g.contents.table, g.contents.bounds)

  trace_good : GoodTrace (events_of s) c.inputs c.outputs
  trace_good = record { few = omega (arith, g.contents.few); valid = g.contents.valid }

  pub run_good : (room : ℕ) → 12 * length (events_of s) ≤ room
      → run_test (rows_meant c.source (rows_of s)) c.states c.inputs c.outputs c.waiting c.losses (events_of s) room ≡ Ok tt
  run_good room l = (run_passes _ c.states c.inputs c.outputs c.waiting c.losses (events_of s) room).1 (opens, trace_good, l)

  -- so its run is refused only for want of room
  pub ends : (e e' o o' : List ℕ) (j : Judged) → c ≡ contents_of s → verdict s row_room (length e) ≡ Ok tt → e' ≡ front e (events_of s)
      → Follows c (rows_meant c.source (rows_of s)) (events_of s) o j o' → Judges s e o j e' o'
  ends e e' o o' j same v f h = rw (f, h.answer, n) (go h.ran o' h.runs)
    where
      n : c.events ≡ length (events_of s)
      n = ap (λ (x : Contents). x.events) same ∙ (counts_held s).1

      decided : (b : Bool) (r : table_refusal.Refusal) → leb (12 * length (events_of s)) (length o) ≡ b
          → must b (Buffer (12 * length (events_of s))) (Ok tt) ≡ Err r
          → Judges s e o (Err (Content r)) (front e (events_of s)) o
      decided true r l x = absurd (let z : ◌≡◌ {A = ℕ} 0 1 = cc in omega arith)
      decided false r l x =
          let z : Buffer (12 * length (events_of s)) ≡ r = cc in
          rw (sym z) (cramped v (leb-false (12 * length (events_of s)) (length o) l))

      fits : run_test (rows_meant c.source (rows_of s)) c.states c.inputs c.outputs c.waiting c.losses (events_of s) (length o) ≡ Ok tt
          → 12 * length (events_of s) ≤ length o
      fits t = ((run_passes (rows_meant c.source (rows_of s)) c.states c.inputs c.outputs c.waiting c.losses (events_of s) (length o)).0 t).2

      go : (r : Ran) (o'' : List ℕ) → RunsAs c (rows_meant c.source (rows_of s)) (events_of s) o r o''
          → Judges s e o (judged (length (events_of s)) r) (front e (events_of s)) o''
      go _ _ (run_refused {r} t) =
          decided (leb (12 * length (events_of s)) (length o)) r refl
          (sym (room_decides (rows_meant c.source (rows_of s)) c.states c.inputs c.outputs c.waiting c.losses (events_of s) (length o) opens trace_good)
          ∙ t)
      go _ _ (run_Ran t w) = listed v (fits t) (rw same at w)

-- a good file
pub read_then : {s d e o d' e' o' : List ℕ} {a : Reading} {c : Contents} {j : Judged} → length d ≡ row_room → Answers s d e a d' e' → a ≡ Ok c
    → Follows c (rows_meant c.source (take c.rows d')) (take c.events e') o j o' → Judges s e o j e' o'
read_then {s} {d} {e} {o} {d'} {e'} {o'} {a} {c} {j} long h x f =
    let h' : Answers s d e (Ok c) d' e' = rw x at h in
    let held = what_is_held s d e c d' e' h' in
    let v : verdict s (length d) (length e) ≡ Ok tt = was_passed (verdict s (length d) (length e)) (contents_of s) c h'.reading in
    ends s c (what_is_good s d e c d' e' h') e e' o o' j held.contents (rw long at v) h'.events (rw (held.rows.start, held.events.start) at f)
