use Rattle.std.proofs.Common.{◌≡◌, []}
use Rattle.zn_files.specs.Memory.{mem_state}
use Rattle.zn_files.specs.MemStates.{first}
use Rattle.zn_files.proofs.Imaging.{IsPartImage}
use Rattle.zn_files.proofs.images.image_of.Given as goal

-- the image so far
abbrev pub invariant-loop-name : goal.invariant-loop-name
invariant-loop-name l = record {
  can : (goal.iterator-loop-name).can_next l.name-iterator;
  finite : (goal.iterator-loop-name).is_finite l.name-iterator;
  fresh : mem_state l.image ≡ record { given = (mem_state l.image).given; made = []; listed = []; calls = 0; faults = 0 };
  part : IsPartImage l.choice l.fn.files.entries l.name-iterator (first (mem_state l.image));
}
