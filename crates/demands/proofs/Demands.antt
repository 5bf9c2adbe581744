-- THE THREE DEMANDS OF THE CUSTOMER ARE MET: three theorems, whose statements specs/Demands has. Each line of a proof cites a law.
--     demand-one, demand-two, demand-three
-- Assumes nothing.
use Rattle.std.specs.Prelude.{refl, ◌↔◌, List, ◌∷◌, ℕ}
use Rattle.std.proofs.Common.{ap}
use Rattle.probes.specs.Table.{Sound}
use Rattle.probes.specs.Verdict.{Validates, verdict}
use Rattle.probes.proofs.Laws.{verdict-meets, sound-gives, never-mark}
use Rattle.probes.proofs.Widths.{widths-none}
use Rattle.probes.proofs.Promises.{validate-unique, validate-numbers}
use Rattle.order.proofs.Listed.{order-length, order-sorted, order-once}
use Rattle.stack.specs.FirstFit.{planned}
use Rattle.stack.specs.PackingLaws.{packs-clean}
use Rattle.rectangles.specs.Converting.{ToCorners, corners_of, ToStarts, starts_of}
use Rattle.rectangles.specs.Plan.{Plans}
use Rattle.rectangles.specs.Checks.{corners-meet, starts-meet, planned-meets}
use Rattle.rectangles.proofs.Promises.{to-corners-unique, to-corners-numbers, to-starts-unique, to-starts-numbers, plan-unique, plan-numbers, plan-below, plan-clean, plan-room}
use Rattle.meetings.specs.Check.{Checks, checked}
use Rattle.meetings.proofs.Promises.{check-unique, check-numbers, check-total, check-alone}
use Rattle.hours.specs.Timetable.{Holder, holder_answer, NextFrom, next_answer}
use Rattle.hours.proofs.HolderLaws.{holder-meets}
use Rattle.hours.proofs.NextLaws.{next-meets}
use Rattle.hours.proofs.Promises.{holder-unique, holder-numbers, next-start-unique, next-start-numbers}
use Rattle.sheets.specs.Layout.{first_edition}
use Rattle.volumes.specs.Reading.{Reads, read_of}
use Rattle.volumes.specs.Writing.{Writes, write_of}
use Rattle.volumes.specs.ReadLaws.{read_meets}
use Rattle.volumes.proofs.WriteLaws.{write_meets}
use Rattle.volumes.proofs.Promises.{read-unique, read-numbers, write-unique, write-numbers}
use Rattle.questions.specs.declared.Question.TheVariants.{IsClean, HolderAt, StartFrom}
use Rattle.exports.specs.Exports.{Exports, export_of}
use Rattle.exports.proofs.Promises.{export-unique, export-total, check-export-numbers, holder-export-numbers, next-start-export-numbers}
use Rattle.lines.specs.Laws.{most_check}
use Rattle.paper.specs.Printed.{plan_page, check_page}
use Rattle.paper.specs.Paper.{most_plan, Prints, print_of}
use Rattle.paper.proofs.Promises.{print-unique, print-numbers, print-total}
use Rattle.demands.proofs.Meeting.{clean-published, answer-clean}
use Rattle.demands.specs.Planning.{plan-fills, plan-follows, plan-ended}
use Rattle.demands.specs.PlanPasses.{plan-passes}
use Rattle.demands.specs.Rectangles.{there_and_back, back-and-there}
use Rattle.demands.specs.Busy.{busy-counted}
use Rattle.demands.specs.BookOrder.{read-order}
use Rattle.demands.specs.Demands.{DemandOne, DemandTwo, DemandThree}

itself : {A : Type 0} → A ↔ A
itself = (λ p. p, λ p. p)

pub demand-one : DemandOne
unfolding Validates ToCorners ToStarts Plans Checks Holder NextFrom Reads Writes Exports Prints
demand-one = record {
  validate = λ Ts ps.
      record { some = (verdict Ts ps, verdict-meets Ts ps); one = validate-unique Ts ps; first = λ o. itself; asked = refl; listed = validate-numbers Ts ps };
  to-corners = λ Ts ps ss xs ys.
      record { some = (corners_of Ts ps ss xs ys, corners-meet Ts ps ss xs ys); one = to-corners-unique Ts ps ss xs ys; first = λ o. itself; asked = refl; listed = to-corners-numbers Ts ps ss xs ys };
  to-starts = λ Ts ps xs ys ss.
      record { some = (starts_of Ts ps xs ys ss, starts-meet Ts ps xs ys ss); one = to-starts-unique Ts ps xs ys ss; first = λ o. itself; asked = refl; listed = to-starts-numbers Ts ps xs ys ss };
  plan = λ Ts ps ss fs.
      record { some = (planned Ts ps ss fs, planned-meets Ts ps ss fs); one = plan-unique Ts ps ss fs; first = λ o. itself; asked = refl; listed = plan-numbers Ts ps ss fs };
  check = λ Ts ps ss.
      record { some = (checked Ts ps ss, check-total Ts ps ss); one = check-unique Ts ps ss; first = λ o. itself; asked = refl; listed = check-numbers Ts ps ss };
  holder = λ Ts ps ss t.
      record { some = (holder_answer Ts ps ss t, holder-meets Ts ps ss t); one = holder-unique Ts ps ss t; first = λ o. itself; asked = refl; listed = holder-numbers Ts ps ss t };
  next_start = λ Ts ps ss t.
      record { some = (next_answer Ts ps ss t, next-meets Ts ps ss t); one = next-start-unique Ts ps ss t; first = λ o. itself; asked = refl; listed = next-start-numbers Ts ps ss t };
  read = λ bs Ts ps ss.
      record { some = (read_of first_edition bs Ts ps ss, read_meets first_edition bs Ts ps ss); one = read-unique first_edition bs Ts ps ss; first = λ o. itself; asked = ap (λ (l : List ℕ). 20 ∷ l) (read-order bs Ts ps ss); listed = read-numbers first_edition bs Ts ps ss };
  write = λ Ts ps ss out.
      record { some = (write_of first_edition Ts ps ss out, write_meets first_edition Ts ps ss out); one = write-unique first_edition Ts ps ss out; first = λ o. itself; asked = refl; listed = write-numbers first_edition Ts ps ss out };
  line-check = λ bs out.
      record { some = (export_of IsClean bs out, export-total IsClean bs out); one = export-unique IsClean bs out; first = λ o. itself; asked = refl; listed = check-export-numbers bs out };
  line-holder = λ bs out t.
      record { some = (export_of (HolderAt t) bs out, export-total (HolderAt t) bs out); one = export-unique (HolderAt t) bs out; first = λ o. itself; asked = refl; listed = λ o. holder-export-numbers bs out o t };
  line-next-start = λ bs out t.
      record { some = (export_of (StartFrom t) bs out, export-total (StartFrom t) bs out); one = export-unique (StartFrom t) bs out; first = λ o. itself; asked = refl; listed = λ o. next-start-export-numbers bs out o t };
  plan-page = λ bs out.
      record { some = (print_of most_plan (plan_page bs) out, print-total most_plan (plan_page bs) out); one = print-unique most_plan (plan_page bs) out; first = λ o. itself; asked = refl; listed = print-numbers most_plan (plan_page bs) out };
  check-page = λ bs out.
      record { some = (print_of most_check (check_page bs) out, print-total most_check (check_page bs) out); one = print-unique most_check (check_page bs) out; first = λ o. itself; asked = refl; listed = print-numbers most_check (check_page bs) out };
}

pub demand-two : (Ts ps : List ℕ) → Sound Ts ps → DemandTwo Ts ps
demand-two Ts ps s = record {
  passes = λ ss. answer-clean Ts ps ss s;
  condition = λ ss. clean-published Ts ps ss s;
  verdict = λ ss same. packs-clean Ts ps ps ss (sound-gives Ts ps s).harmonic same (sound-gives Ts ps s).reads (sound-gives Ts ps s).short;
  planning = λ ss fs long-s long-f o p.
      record {
        after = _;
        fills = plan-fills Ts ps ss fs s long-s long-f o p;
        follows = plan-follows Ts ps ss fs s long-s long-f o p;
        ended = plan-ended Ts ps ss fs s long-s long-f o p;
        below = plan-below Ts ps ss fs o p;
        clean = λ e. rw (widths-none ps) at (plan-clean Ts ps ss fs o p e);
        checked = plan-passes Ts ps ss fs o p;
      };
  as-many = order-length Ts ps;
  ties = order-sorted Ts ps;
  every = order-once Ts ps;
  rectangles = there_and_back Ts ps s;
  starts = back-and-there Ts ps s;
}

pub demand-three : (Ts ps : List ℕ) → DemandThree Ts ps
demand-three Ts ps = record {
  share = λ ss c i a h l.
      let (w, alone) = check-alone Ts ps ss c i a h l in
      (w, λ j t k n from to. alone j t k n);
  room = λ s r ss fs long-s long-f o p.
      let e = plan-room Ts ps ss fs s long-s long-f (rw (widths-none ps) r) o p in
      (e, λ i h. never-mark _ _ ((sound-gives Ts ps s).most i h) (plan-below Ts ps ss fs o p e i h));
  busy = λ s ss. busy-counted Ts ps ss s;
}
