-- A plan's records, written, are read back number by number; the written bytes pass the layout's checks, and bytes that pass them are those of
-- some records within the limits. Assumes nothing.
use Prim.Native.Nat.{ℕ, suc, ◌+◌, ◌*◌, ◌/◌, ◌≤◌, ◌<◌}
use mathlib.Core.Path.{◌≡◌, refl, sym, ap, ◌∙◌}
use mathlib.Core.Logic.{◌↔◌}
use mathlib.Core.List.{List, []}
use native.Mathlib.Nat.{mul-le-mul_right}
use native.Mathlib.Omega.{arith}
use lib.ListN.{length, get_or}
use Rattle.std.specs.Prelude.{Ok}
use Rattle.model.specs.Bytes.{Bytes, body}
use Rattle.model.specs.Layout.{Plan, plan_of, shapes, shape_of, layout_check, region_count, map_count, supplied_count, statement_count, node_count, assignment_count, step_count, fields, source, target, totality, supplied_region, supplied_flags, statement_kind, statement_a, statement_b, statement_c, node_kind, node_a, node_b, node_unused, assigned, step_lemma, step_x, step_y, step_p, step_q}
use Rattle.model.specs.PlainPlan.{SectionLength, regions, maps, supplied, statements, nodes, assignments, steps}
use Rattle.model.specs.Encoding.{concatenation, tabulate, Octets, framed_bytes, PlanRecords, plan_bodies, plan_bytes, cell, RecordsWithin, PlanWithinLimits}
use Rattle.model.proofs.Tests.{Firsts, ◌also◌, at_each}
use Rattle.model.proofs.Accepted.{Section, laid_out_lem}
use Rattle.model.proofs.LayoutAgrees.{layout_read}
use Rattle.model.proofs.Lists.{list_there, is_concatenation, length_of_widths, start_of_widths, cell_at, length-tabulate, get_d_tabulate, each_tabulate, each_concatenation}
use Rattle.model.proofs.FrameEncoding.{Framed, frame_read, frame_written, octets_body, octets_framed}

-- each number of records, and each cell, is what was written
pub record PlanReadBack (P : Plan) (R : PlanRecords) : Type 0 where
  pub regions_counted : region_count P ≡ length R.regions
  pub maps_counted : map_count P ≡ length R.maps
  pub supplied_counted : supplied_count P ≡ length R.supplied
  pub statements_counted : statement_count P ≡ length R.statements
  pub nodes_counted : node_count P ≡ length R.nodes
  pub assignments_counted : assignment_count P ≡ length R.assignments
  pub steps_counted : step_count P ≡ length R.steps
  pub fields_read : (r : ℕ) → fields P r ≡ cell R.regions r 0
  pub source_read : (m : ℕ) → source P m ≡ cell R.maps m 0
  pub target_read : (m : ℕ) → target P m ≡ cell R.maps m 1
  pub totality_read : (m : ℕ) → totality P m ≡ cell R.maps m 2
  pub supplied_region_read : (k : ℕ) → supplied_region P k ≡ cell R.supplied k 0
  pub supplied_flags_read : (k : ℕ) → supplied_flags P k ≡ cell R.supplied k 1
  pub statement_kind_read : (s : ℕ) → statement_kind P s ≡ cell R.statements s 0
  pub statement_a_read : (s : ℕ) → statement_a P s ≡ cell R.statements s 1
  pub statement_b_read : (s : ℕ) → statement_b P s ≡ cell R.statements s 2
  pub statement_c_read : (s : ℕ) → statement_c P s ≡ cell R.statements s 3
  pub node_kind_read : (j : ℕ) → node_kind P j ≡ cell R.nodes j 0
  pub node_a_read : (j : ℕ) → node_a P j ≡ cell R.nodes j 1
  pub node_b_read : (j : ℕ) → node_b P j ≡ cell R.nodes j 2
  pub node_unused_read : (j : ℕ) → node_unused P j ≡ cell R.nodes j 3
  pub assigned_read : (k : ℕ) → assigned P k ≡ cell R.assignments k 0
  pub step_lemma_read : (t : ℕ) → step_lemma P t ≡ cell R.steps t 0
  pub step_x_read : (t : ℕ) → step_x P t ≡ cell R.steps t 1
  pub step_y_read : (t : ℕ) → step_y P t ≡ cell R.steps t 2
  pub step_p_read : (t : ℕ) → step_p P t ≡ cell R.steps t 3
  pub step_q_read : (t : ℕ) → step_q P t ≡ cell R.steps t 4

-- a section's body and its records
module _ {width least most : ℕ} {records : List (List ℕ)} (W : RecordsWithin width least most records) (s : Bytes) (is : s ≡ concatenation records) where
  counted : length s ≡ length records * width
  counted = rw is (length_of_widths width records W.widths)

  read : (r c at : ℕ) → c < width → at ≡ r * width + c → get_or s at 0 ≡ cell records r c
  read r c at lt place = rw is (cell_at width records W.widths r c at 0 lt place)

module _ (edition : ℕ) (R : PlanRecords) (W : PlanWithinLimits R) where
  pub plan_read_back : PlanReadBack (plan_of (plan_bytes edition R)) R
  plan_read_back =
      record {
        regions_counted = omega (arith, counted W.regions _ regions_body);
        maps_counted = omega (arith, counted W.maps _ maps_body);
        supplied_counted = omega (arith, counted W.supplied _ supplied-body);
        statements_counted = omega (arith, counted W.statements _ statements_body);
        nodes_counted = omega (arith, counted W.nodes _ nodes_body);
        assignments_counted = omega (arith, counted W.assignments _ assignments_body);
        steps_counted = omega (arith, counted W.steps _ steps_body);
        fields_read = λ r. read W.regions _ regions_body r 0 _ (omega arith) (omega arith);
        source_read = λ m. read W.maps _ maps_body m 0 _ (omega arith) (omega arith);
        target_read = λ m. read W.maps _ maps_body m 1 _ (omega arith) (omega arith);
        totality_read = λ m. read W.maps _ maps_body m 2 _ (omega arith) (omega arith);
        supplied_region_read = λ k. read W.supplied _ supplied-body k 0 _ (omega arith) (omega arith);
        supplied_flags_read = λ k. read W.supplied _ supplied-body k 1 _ (omega arith) (omega arith);
        statement_kind_read = λ s. read W.statements _ statements_body s 0 _ (omega arith) (omega arith);
        statement_a_read = λ s. read W.statements _ statements_body s 1 _ (omega arith) (omega arith);
        statement_b_read = λ s. read W.statements _ statements_body s 2 _ (omega arith) (omega arith);
        statement_c_read = λ s. read W.statements _ statements_body s 3 _ (omega arith) (omega arith);
        node_kind_read = λ j. read W.nodes _ nodes_body j 0 _ (omega arith) (omega arith);
        node_a_read = λ j. read W.nodes _ nodes_body j 1 _ (omega arith) (omega arith);
        node_b_read = λ j. read W.nodes _ nodes_body j 2 _ (omega arith) (omega arith);
        node_unused_read = λ j. read W.nodes _ nodes_body j 3 _ (omega arith) (omega arith);
        assigned_read = λ k. read W.assignments _ assignments_body k 0 _ (omega arith) (omega arith);
        step_lemma_read = λ t. read W.steps _ steps_body t 0 _ (omega arith) (omega arith);
        step_x_read = λ t. read W.steps _ steps_body t 1 _ (omega arith) (omega arith);
        step_y_read = λ t. read W.steps _ steps_body t 2 _ (omega arith) (omega arith);
        step_p_read = λ t. read W.steps _ steps_body t 3 _ (omega arith) (omega arith);
        step_q_read = λ t. read W.steps _ steps_body t 4 _ (omega arith) (omega arith);
      }
    where
      regions_body : body (plan_bytes edition R) 0 ≡ concatenation R.regions
      regions_body = (frame_read edition (plan_bodies R)).body_is 0 (omega arith)

      maps_body : body (plan_bytes edition R) 1 ≡ concatenation R.maps
      maps_body = (frame_read edition (plan_bodies R)).body_is 1 (omega arith)

      supplied-body : body (plan_bytes edition R) 2 ≡ concatenation R.supplied
      supplied-body = (frame_read edition (plan_bodies R)).body_is 2 (omega arith)

      statements_body : body (plan_bytes edition R) 3 ≡ concatenation R.statements
      statements_body = (frame_read edition (plan_bodies R)).body_is 3 (omega arith)

      nodes_body : body (plan_bytes edition R) 4 ≡ concatenation R.nodes
      nodes_body = (frame_read edition (plan_bodies R)).body_is 4 (omega arith)

      assignments_body : body (plan_bytes edition R) 5 ≡ concatenation R.assignments
      assignments_body = (frame_read edition (plan_bodies R)).body_is 5 (omega arith)

      steps_body : body (plan_bytes edition R) 6 ≡ concatenation R.steps
      steps_body = (frame_read edition (plan_bodies R)).body_is 6 (omega arith)

  -- the written bytes are octets, and the layout's checks pass on them
  pub written_octets : edition < 256 → Octets (plan_bytes edition R)
  written_octets small =
      octets_framed edition (plan_bodies R) small
      (λ n lt. at_each (λ n. (length (get_or (plan_bodies R) n []) < 65536) × Octets (get_or (plan_bodies R) n [])) 0 7
      (few W.regions (omega arith) also few W.maps (omega arith) also few W.supplied (omega arith)
      also few W.statements (omega arith) also few W.nodes (omega arith) also few W.assignments (omega arith)
      also few W.steps (omega arith) also tt) n (omega arith) lt)
    where
      few : {width least most : ℕ} {records : List (List ℕ)} → RecordsWithin width least most records → most * width < 65536 →
          (length (concatenation records) < 65536) × Octets (concatenation records)
      few {width} {records = records} I small =
          (omega (arith, counted I _ refl, mul-le-mul_right width I.at_most), each_concatenation (λ n. n < 256) 0 (omega arith) records I.octets)

pub layout_written : (R : PlanRecords) → PlanWithinLimits R → layout_check (plan_bytes 1 R) ≡ Ok tt
layout_written R W =
    (layout_read (plan_bytes 1 R)).1
    (record {
      some_byte = F.some_byte;
      edition = refl;
      sections_end = F.ends_inside;
      section_lengths = λ n lt. rw (F.body_is n lt) (at_each (λ n. SectionLength (suc n) (length (get_or (plan_bodies R) n []))) 0 7 lengths n (omega arith) lt);
      nothing_after = F.nothing_after;
    })
  where
    F : Framed (plan_bytes 1 R) (plan_bodies R)
    F = frame_read 1 (plan_bodies R)

    lengths : Firsts (λ n. SectionLength (suc n) (length (get_or (plan_bodies R) n []))) 0 7
    lengths =
        regions refl (omega (arith, counted W.regions _ refl, W.regions.at_least)) (omega (arith, counted W.regions _ refl, W.regions.at_most))
        also maps refl (counted W.maps _ refl) W.maps.at_most
        also supplied refl (counted W.supplied _ refl) W.supplied.at_most
        also statements refl (counted W.statements _ refl) W.statements.at_most
        also nodes refl (counted W.nodes _ refl) W.nodes.at_most
        also assignments refl (omega (arith, counted W.assignments _ refl, W.assignments.at_most))
        also steps refl (counted W.steps _ refl) W.steps.at_most
        also tt

-- the records of a body, and that they are all of it
records_of : ℕ → Bytes → List (List ℕ)
records_of width s = tabulate (length s / width) (λ r. tabulate width (λ c. get_or s (r * width + c) 0))

module _ (width least most : ℕ) (s : Bytes) (octets : Octets s) (whole : length s ≡ length s / width * width) where
  records_count : length (records_of width s) ≡ length s / width
  unfolding records_of
  records_count = length-tabulate (length s / width) _

  record_is : (r : ℕ) → r < length s / width → get_or (records_of width s) r [] ≡ tabulate width (λ c. get_or s (r * width + c) 0)
  unfolding records_of
  record_is r lt = get_d_tabulate (length s / width) _ r [] lt

  record_width : (r : ℕ) → r < length (records_of width s) → length (get_or (records_of width s) r []) ≡ width
  record_width r lt = rw (record_is r (rw records_count at lt)) (length-tabulate width _)

  records_within : least ≤ length s / width → length s / width ≤ most → RecordsWithin width least most (records_of width s)
  unfolding records_of
  records_within few many =
      record {
        at_least = rw records_count few;
        at_most = rw records_count many;
        widths = record_width;
        octets = each_tabulate Octets [] (λ at. omega arith) (length s / width) _
            (λ r lt. each_tabulate (λ n. n < 256) 0 (omega arith) width _ (λ c lt. octets (r * width + c)));
      }

  records_all : concatenation (records_of width s) ≡ s
  records_all =
      sym (is_concatenation (records_of width s) s 0
      (rw (length_of_widths width (records_of width s) record_width, records_count) whole)
      (λ r c inside.
      let lt = list_there (records_of width s) r c inside in
      let here = rw records_count at lt in
      rw (start_of_widths width (records_of width s) record_width r (omega arith), record_is r here)
      (sym (get_d_tabulate width (λ c. get_or s (r * width + c) 0) c 0 (rw (record_width r lt) at inside)))))

-- the records of a plan's bytes
plan_records : Bytes → PlanRecords
plan_records p =
    record {
      regions = records_of 1 (body p 0);
      maps = records_of 3 (body p 1);
      supplied = records_of 2 (body p 2);
      statements = records_of 4 (body p 3);
      nodes = records_of 4 (body p 4);
      assignments = records_of 1 (body p 5);
      steps = records_of 5 (body p 6);
    }

module _ (p : Bytes) (octets : Octets p) (passed : layout_check p ≡ Ok tt) where
  passed_section : (n : ℕ) → n < 7 → Section p n
  passed_section = (laid_out_lem p passed).section

  -- the records of section n are within its limits, and are all of it
  found :
      (width least most n : ℕ) (lt : n < 7) → (shape_of n).width ≡ width → (shape_of n).fewest ≡ least → (shape_of n).most ≡ most →
      RecordsWithin width least most (records_of width (body p n)) × (body p n ≡ concatenation (records_of width (body p n)))
  found width least most n lt w l m =
      let S = passed_section n lt in
      let whole = rw w at S.whole_records in
      let octets = octets_body p n octets in (
        records_within width least most (body p n) octets whole (rw (w, l) at S.count_least) (rw (w, m) at S.count_most),
        sym (records_all width least most (body p n) octets whole),
      )

  plan_found : PlanWithinLimits (plan_records p) × (p ≡ plan_bytes 1 (plan_records p))
  unfolding plan_records shape_of shapes
  plan_found =
      let r0 = found 1 1 16 0 (omega arith) refl refl refl in
      let r1 = found 3 0 16 1 (omega arith) refl refl refl in
      let r2 = found 2 0 8 2 (omega arith) refl refl refl in
      let r3 = found 4 0 64 3 (omega arith) refl refl refl in
      let r4 = found 4 0 48 4 (omega arith) refl refl refl in
      let r5 = found 1 0 64 5 (omega arith) refl refl refl in
      let r6 = found 5 0 128 6 (omega arith) refl refl refl in (
        record {
          regions = r0.0;
          maps = r1.0;
          supplied = r2.0;
          statements = r3.0;
          nodes = r4.0;
          assignments = r5.0;
          steps = r6.0;
        },
        frame_written p (plan_bodies (plan_records p)) octets
            (record {
              some_byte = omega (arith, (passed_section 0 (omega arith)).starts_inside);
              ends_inside = λ n lt. (passed_section n lt).ends_inside;
              nothing_after = (laid_out_lem p passed).nothing_after;
              body_is = λ n lt. at_each (λ n. body p n ≡ get_or (plan_bodies (plan_records p)) n []) 0 7
                  (r0.1 also r1.1 also r2.1 also r3.1 also r4.1 also r5.1 also r6.1 also tt) n (omega arith) lt;
            })
            ∙ ap (λ (e : ℕ). framed_bytes e (plan_bodies (plan_records p))) (laid_out_lem p passed).edition,
      )

-- a plan's layout passes its checks exactly where the plan is some records within the limits, written
pub plan_written : (p : Bytes) → (Octets p × (layout_check p ≡ Ok tt)) ↔ ((R : PlanRecords) × PlanWithinLimits R × (p ≡ plan_bytes 1 R))
plan_written p = (
  λ h. let w = plan_found p h.0 h.1 in (plan_records p, w.0, w.1),
  λ w. (rw w.2 (written_octets 1 w.0 w.1 (omega arith)), rw w.2 (layout_written w.0 w.1)),
)
