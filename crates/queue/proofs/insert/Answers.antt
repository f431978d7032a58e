use Rattle.queue.proofs.Places.{turned_in, turned_past}
use Rattle.queue.proofs.insert.Goals as goal

pub returns : goal.returns
returns g c =
    let a = c.args in
    record {
      front = turned_in a.slots.now a.n a.at a.new _ c.requires.room c.requires.among c.rotate_right.ensures.after;
      spare = turned_past a.slots.now a.n a.at a.new _ c.requires.room c.requires.among c.rotate_right.ensures.len;
    }
