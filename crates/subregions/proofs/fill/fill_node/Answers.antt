-- By kind: the operator's pieces are the node's sets of what the words hold. Assumes nothing.
use mathlib.Core.Path.{◌≡◌, sym, ◌∙◌}
use lib.ListN.{length}
use Rattle.model.specs.Bytes.{Bytes}
use Rattle.model.specs.Layout.{Plan}
use Rattle.model.specs.Nodes.{node_kind_at}
use Rattle.model.specs.DataSets.{data_of}
use Rattle.model.specs.declared.NodeKind.{NodeKind}
use Rattle.model.specs.declared.NodeKind.TheVariants.{Union, Intersection, Difference}
use Rattle.bitsets.specs.Elements.{union, intersection, difference}
use Rattle.subregions.specs.Fill.{NodeSources}
use Rattle.subregions.proofs.NodeOperators.{Combines, known_kind, unites, intersects, subtracts}
use Rattle.subregions.proofs.NodeFill.{Filled, node_listed, piece_near, word_near, supplied_room, supplied_done, equal_room, equal_done, combined_room, combined_done, image_room, image_done, preimage_room, preimage_done}
use Rattle.subregions.proofs.fill.fill_node.Goals as goal
use Rattle.subregions.proofs.fill.fill_node.Goals.{After-part_from-left}

-- what it is handed, of a plan and data
abbrev Handed : After-part_from-left → Plan → Bytes → Type 0
Handed c P d = NodeSources P d c.args.sources.now c.args.node_sizes.now c.args.span (length c.args.words.now) c.args.j

-- what it reads and cuts of that
filled : (c : After-part_from-left) {P : Plan} {d : Bytes} → Handed c P d
    → Filled P d c.args.sources.now c.args.node_sizes.now c.args.span c.args.j c.args.words.now c.split_at_mut-earlier.result.0.now c.split_at_mut-earlier.result.1.now c.node_operands-a.result.0 c.node_operands-a.result.1 c.entry_or-size.result
filled c {P} h =
    let same = sym h.nodes_are in
    record {
      node = h;
      front = c.split_at_mut-earlier.ensures.front;
      back = c.split_at_mut-earlier.ensures.back;
      operands = record { a_is = c.node_operands-a.ensures.left P same; b_is = c.node_operands-a.ensures.right P same };
      size_read = c.entry_or-size.ensures;
    }

kind_is : (c : After-part_from-left) {P : Plan} {d : Bytes} → Handed c P d → {kind : NodeKind} → c.node_kind-kind.result ≡ kind → node_kind_at P c.args.j ≡ kind
kind_is c {P} h told = sym (c.node_kind-kind.ensures P (sym h.nodes_are)) ∙ told

-- the three operators on two sets
united : (c : After-part_from-left) {P : Plan} {d : Bytes} → Handed c P d → c.node_kind-kind.result ≡ Union → Combines P (data_of d) c.args.j union
united c h told = unites _ _ h.facts _ (node_listed h) (kind_is c h told)

intersected : (c : After-part_from-left) {P : Plan} {d : Bytes} → Handed c P d → c.node_kind-kind.result ≡ Intersection → Combines P (data_of d) c.args.j intersection
intersected c h told = intersects _ _ h.facts _ (node_listed h) (kind_is c h told)

subtracted : (c : After-part_from-left) {P : Plan} {d : Bytes} → Handed c P d → c.node_kind-kind.result ≡ Difference → Combines P (data_of d) c.args.j difference
subtracted c h told = subtracts _ _ h.facts _ (node_listed h) (kind_is c h told)

pub overflow_mul-a : goal.overflow_mul-a
overflow_mul-a c = piece_near c.requires c.node_operands-a.ensures.bytes.0

pub overflow_mul-a-2 : goal.overflow_mul-a-2
overflow_mul-a-2 c = word_near c.requires c.node_operands-a.ensures.bytes.0

pub overflow_mul-right : goal.overflow_mul-right
overflow_mul-right c = piece_near c.requires c.node_operands-a.ensures.bytes.1

pub overflow_mul-right-2 : goal.overflow_mul-right-2
overflow_mul-right-2 c = word_near c.requires c.node_operands-a.ensures.bytes.1

pub fill_supplied-requires : goal.fill_supplied-requires
fill_supplied-requires c =
    let x = (goal.at.fill_supplied-requires c).After-part_from-left in
    supplied_room (filled x c.requires.sources) (kind_is x c.requires.sources c.in-Supplied.is) c.partition_members.ensures

pub fill_equal-requires : goal.fill_equal-requires
fill_equal-requires c =
    let x = (goal.at.fill_equal-requires c).After-part_from-left in
    equal_room (filled x c.requires.sources)

pub fill_combined-requires : goal.fill_combined-requires
fill_combined-requires c =
    let x = (goal.at.fill_combined-requires c).After-part_from-left in
    combined_room (filled x c.requires.sources) (united x c.requires.sources c.in-Union.is) c.part_from-left.ensures c.part_from.ensures

pub fill_combined-requires-in-Intersection : goal.fill_combined-requires-in-Intersection
fill_combined-requires-in-Intersection c =
    let x = (goal.at.fill_combined-requires-in-Intersection c).After-part_from-left in
    combined_room (filled x c.requires.sources) (intersected x c.requires.sources c.in-Intersection.is) c.part_from-left.ensures c.part_from-in-Intersection.ensures

pub fill_combined-requires-in-Difference : goal.fill_combined-requires-in-Difference
fill_combined-requires-in-Difference c =
    let x = (goal.at.fill_combined-requires-in-Difference c).After-part_from-left in
    combined_room (filled x c.requires.sources) (subtracted x c.requires.sources c.in-Difference.is) c.part_from-left.ensures c.part_from-in-Difference.ensures

pub fill_image-requires : goal.fill_image-requires
fill_image-requires c =
    let x = (goal.at.fill_image-requires c).After-part_from-left in
    image_room (filled x c.requires.sources) c.map_entries.ensures c.part_from-left.ensures c.entry_or-elements.ensures (kind_is x c.requires.sources c.in-Image.is)

pub fill_preimage-requires : goal.fill_preimage-requires
fill_preimage-requires c =
    let x = (goal.at.fill_preimage-requires c).After-part_from-left in
    preimage_room (filled x c.requires.sources) c.map_entries-in-Preimage.ensures c.part_from-left.ensures c.entry_or-a_size.ensures (kind_is x c.requires.sources c.in-Preimage.is)

pub returns-in-Supplied : goal.returns-in-Supplied
returns-in-Supplied c P d h =
    let x = (goal.at.returns-in-Supplied c).After-part_from-left in
    supplied_done (filled x h) (kind_is x h c.in-Supplied.is) c.partition_members.ensures c.fill_supplied.ensures

pub returns-in-Equal : goal.returns-in-Equal
returns-in-Equal c P d h =
    let x = (goal.at.returns-in-Equal c).After-part_from-left in
    equal_done (filled x h) (kind_is x h c.in-Equal.is) c.fill_equal.ensures

pub returns-in-Union : goal.returns-in-Union
returns-in-Union c P d h =
    let x = (goal.at.returns-in-Union c).After-part_from-left in
    combined_done (filled x h) (united x h c.in-Union.is) c.part_from-left.ensures c.part_from.ensures c.fill_combined.ensures

pub returns-in-Intersection : goal.returns-in-Intersection
returns-in-Intersection c P d h =
    let x = (goal.at.returns-in-Intersection c).After-part_from-left in
    combined_done (filled x h) (intersected x h c.in-Intersection.is) c.part_from-left.ensures c.part_from-in-Intersection.ensures c.fill_combined-in-Intersection.ensures

pub returns-in-Difference : goal.returns-in-Difference
returns-in-Difference c P d h =
    let x = (goal.at.returns-in-Difference c).After-part_from-left in
    combined_done (filled x h) (subtracted x h c.in-Difference.is) c.part_from-left.ensures c.part_from-in-Difference.ensures c.fill_combined-in-Difference.ensures

pub returns-in-Image : goal.returns-in-Image
returns-in-Image c P d h =
    let x = (goal.at.returns-in-Image c).After-part_from-left in
    image_done (filled x h) c.map_entries.ensures c.part_from-left.ensures c.entry_or-elements.ensures (kind_is x h c.in-Image.is) c.fill_image.ensures

pub returns-in-Preimage : goal.returns-in-Preimage
returns-in-Preimage c P d h =
    let x = (goal.at.returns-in-Preimage c).After-part_from-left in
    preimage_done (filled x h) c.map_entries-in-Preimage.ensures c.part_from-left.ensures c.entry_or-a_size.ensures (kind_is x h c.in-Preimage.is) c.fill_preimage.ensures

pub returns-in-Unknown : goal.returns-in-Unknown
returns-in-Unknown c P d h =
    let x = (goal.at.returns-in-Unknown c).After-part_from-left in
    absurd (known_kind P (data_of d) h.facts _ (node_listed h) (kind_is x h c.in-Unknown.is))
