mod RangeLemmas
mod KeptRooms
mod Settles
mod Dues
