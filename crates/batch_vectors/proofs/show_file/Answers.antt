use Rattle.std.proofs.Common.{rules}
use Rattle.batch_vectors.proofs.Lone.{lone_start, lone_end, lone_judgeable}
use Rattle.batch_vectors.proofs.show_file.Goals as goal

pub overflow_sub-file : goal.overflow_sub-file
overflow_sub-file g c = search (rules, lone_start)

pub slice_bounds-show_batch-count : goal.slice_bounds-show_batch-count
slice_bounds-show_batch-count g c = search (rules, lone_end)

pub slice_bounds-show_batch-start : goal.slice_bounds-show_batch-start
slice_bounds-show_batch-start g c = search (rules, lone_end)

pub show_batch-requires : goal.show_batch-requires
show_batch-requires g c = search (rules, lone_judgeable)
