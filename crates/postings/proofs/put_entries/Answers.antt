-- `put_entries` meets its contract: the number, and the body after it.
use Rattle.varint.specs.Varint.{encode}
use Rattle.postings.proofs.Fitting.{front_inside, front_more}
use Rattle.postings.proofs.put_entries.Goals as goal

pub slice_bounds-put_bytes-count : goal.slice_bounds-put_bytes-count
slice_bounds-put_bytes-count c = front_inside c.args.out.now c.put_number-at.new.out (encode c.args.number) c.args.bytes.now c.put_number-at.result c.requires c.put_number-at.ensures.0 c.put_number-at.ensures.1

pub slice_bounds-put_bytes-start : goal.slice_bounds-put_bytes-start
slice_bounds-put_bytes-start c = front_inside c.args.out.now c.put_number-at.new.out (encode c.args.number) c.args.bytes.now c.put_number-at.result c.requires c.put_number-at.ensures.0 c.put_number-at.ensures.1

pub returns : goal.returns
returns c = front_more c.args.out.now c.put_number-at.new.out (encode c.args.number) c.args.bytes.now c.put_number-at.result c.requires c.put_number-at.ensures.0 c.put_number-at.ensures.1 c.put_bytes.new.out c.put_bytes.ensures
