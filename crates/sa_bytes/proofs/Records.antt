-- How long records of nodes and ports are, and that they hold what was given.
use Rattle.std.proofs.Common.{◌≡◌, ℕ, ◌+◌, ◌++◌, ◌≤◌, List, refl, sym, ap, ◌∙◌, arith, inl, length, replicate, take}
use Rattle.std.proofs.lemmas.List.{length-append, length-take-le}
use Rattle.std.proofs.Math.Seq.{take-append_seam}
use Rattle.smp_bytes.specs.Field.{bytes_in, with_bytes, with_number}
use Rattle.smp_bytes.proofs.FieldLaws.{length-with_bytes, length-with_number, length-with_numbers, number_in-with_bytes, number_in-with_number, number_in-with_number_apart}
use Rattle.smp_bytes.proofs.OffsetLaws.{bytes_in-with_bytes}
use Rattle.attr_codec.specs.NodeInfo.{entries_of, node_info_bytes}
use Rattle.sa_bytes.specs.NodeRecord.{node_lid, node_record_bytes}
use Rattle.sa_bytes.specs.PortInfoRecord.{as_64, port_info_record_bytes, port_lid, port_number}
use Rattle.sa_bytes.specs.ReadBack.{NodeReadsBack, PortReadsBack}
use Rattle.sa_bytes.specs.declared.node_record.NodeRecord.{NodeRecord}
use Rattle.sa_bytes.specs.declared.port_info_record.PortInfoRecord.{PortInfoRecord}

-- NodeInfo has 64 bytes
info_length : (r : NodeRecord) → length (node_info_bytes r.info) ≡ 64
info_length r = length-with_numbers 64 (entries_of r.info) (replicate 64 0) refl refl

-- a record of a node has 112
pub node_length : (r : NodeRecord) → length (node_record_bytes r) ≡ 112
node_length r =
    let begun : length (with_number node_lid r.lid (replicate 112 0)) ≡ 112 = length-with_number node_lid r.lid (replicate 112 0) (omega arith) in
    length-with_bytes 4 (node_info_bytes r.info) (with_number node_lid r.lid (replicate 112 0)) (omega (arith, info_length r, begun)) ∙ begun

-- so many bytes have so many
pub as_64_length : (info : List ℕ) → length (as_64 info) ≡ 64
as_64_length info = length-take-le 64 (info ++ replicate 64 0) (omega (arith, length-append info (replicate 64 0)))

-- 64 bytes are as they are
pub as_64_same : (info : List ℕ) → length info ≡ 64 → as_64 info ≡ info
as_64_same info e = ap (λ n. take n (info ++ replicate 64 0)) (sym e) ∙ take-append_seam info (replicate 64 0)

port_begun : (r : PortInfoRecord) → length (with_number port_number r.port (with_number port_lid r.lid (replicate 72 0))) ≡ 72
port_begun r =
    let first : length (with_number port_lid r.lid (replicate 72 0)) ≡ 72 = length-with_number port_lid r.lid (replicate 72 0) (omega arith) in
    length-with_number port_number r.port (with_number port_lid r.lid (replicate 72 0)) (omega (arith, first)) ∙ first

-- a record of a port has 72
pub port_length : (r : PortInfoRecord) → length (port_info_record_bytes r) ≡ 72
port_length r =
    length-with_bytes 4 (as_64 r.info) (with_number port_number r.port (with_number port_lid r.lid (replicate 72 0)))
    (omega (arith, as_64_length r.info, port_begun r))
    ∙ port_begun r

-- the bytes that were written, as many as they are
written_at : (at count : ℕ) (written bytes : List ℕ) → length written ≡ count → at + count ≤ length bytes
    → bytes_in (record { at = at; len = count }) (with_bytes at written bytes) ≡ written
written_at at count written bytes e fits =
    ap (λ n. bytes_in (record { at = at; len = n }) (with_bytes at written bytes)) (sym e) ∙ bytes_in-with_bytes at written bytes (omega (arith, e, fits))

pub node_back : NodeReadsBack
node_back r small =
    let begun : length (with_number node_lid r.lid (replicate 112 0)) ≡ 112 = length-with_number node_lid r.lid (replicate 112 0) (omega arith) in (
      number_in-with_bytes node_lid 4 (node_info_bytes r.info) (with_number node_lid r.lid (replicate 112 0)) (omega (arith, info_length r, begun)) (inl (omega arith))
          ∙ number_in-with_number node_lid r.lid (replicate 112 0) (omega arith) small,
      written_at 4 64 (node_info_bytes r.info) (with_number node_lid r.lid (replicate 112 0)) (info_length r) (omega (arith, begun)),
    )

pub port_back : PortReadsBack
port_back r lid_small port_small long =
    let first : length (with_number port_lid r.lid (replicate 72 0)) ≡ 72 = length-with_number port_lid r.lid (replicate 72 0) (omega arith) in
    let base = with_number port_number r.port (with_number port_lid r.lid (replicate 72 0)) in
    let begun : length base ≡ 72 = port_begun r in (
      number_in-with_bytes port_lid 4 (as_64 r.info) base (omega (arith, as_64_length r.info, begun)) (inl (omega arith))
          ∙ number_in-with_number_apart port_lid port_number r.port (with_number port_lid r.lid (replicate 72 0)) (omega (arith, first)) refl
          ∙ number_in-with_number port_lid r.lid (replicate 72 0) (omega arith) lid_small,
      number_in-with_bytes port_number 4 (as_64 r.info) base (omega (arith, as_64_length r.info, begun)) (inl (omega arith))
          ∙ number_in-with_number port_number r.port (with_number port_lid r.lid (replicate 72 0)) (omega (arith, first)) port_small,
      written_at 4 64 (as_64 r.info) base (as_64_length r.info) (omega (arith, begun)) ∙ as_64_same r.info long,
    )
